-- A right finger at an entry that holds an index stands at the row's entry.
use Rattle.std.specs.Prelude.{◌≡◌, List, ◌∷◌, ◌++◌, ℕ, suc, ◌+◌, ◌<◌, take, drop}
use Rattle.std.proofs.Common.{ap, ◌∙◌, subst, append_assoc, arith}
use Rattle.std.proofs.Math.Seq.{split_at}
use Rattle.model.specs.Lists.{sum_by}
use Rattle.model.specs.declared.head.Finger.{Finger}
use Rattle.model_tree.specs.Lists.{cat, cat_append, sum_by_append}
use Rattle.model_tree.specs.Levels.{no_slot, len, Slot, climb}
use Rattle.model_tree.specs.Pigeon.{In, is_in}
use Rattle.model_tree.specs.Tree.{Tree, leaf_slots, order, above, row, BodyAt, Body, FingerRight}
use Rattle.model_tree.specs.Finger.{climb_at}
use Rattle.model_tree.specs.Calls.{slot_at}

-- the finger f stands at the entry that holds position x of view v, at that offset into it; ε is the effect view
pub record LooksAt (ε : ℕ) (s : Tree) (v x : ℕ) (f : Finger) (offset : ℕ) : Type 0 where
  pub front : List Slot
  pub behind : List Slot
  pub right : FingerRight ε s f
  pub row : row s ≡ front ++ slot_at s f.leaf f.slot ∷ behind
  pub sums : sum_by (len v) front + offset ≡ x
  pub inside : offset < len v (slot_at s f.leaf f.slot)
  pub effect : f.effect + f.effect_within ≡ sum_by (len ε) front
  pub prepare : f.prepare + f.prepare_within ≡ sum_by (len 0) front

pub at_finger : (ε : ℕ) (s : Tree) → Body s → (v x : ℕ) (f : Finger) (offset : ℕ) → FingerRight ε s f → f.view ≡ v → f.start + f.within + offset ≡ x
    → offset < len v (slot_at s f.leaf f.slot) → LooksAt ε s v x f offset
at_finger ε s b v x f offset r vw sm lt = go (is_in f.leaf (order s) (b.leaf_all f.leaf r.leaf_in_law))
  where
    go : In f.leaf (order s) → LooksAt ε s v x f offset
    go i =
        let b' : BodyAt s (i.before ++ f.leaf ∷ i.after) (above s) = subst (λ (C : List ℕ). BodyAt s C (above s)) i.row b in
        let l : List Slot = leaf_slots s f.leaf in
        let F : List Slot = cat s.body.leaf.slots i.before in
        let sv : climb v s.body.leaf s.body.inner s.body.levels f.leaf ≡ sum_by (len v) F = climb_at s i.before f.leaf i.after (above s) b' v in
        let s1 : climb ε s.body.leaf s.body.inner s.body.levels f.leaf ≡ sum_by (len ε) F = climb_at s i.before f.leaf i.after (above s) b' ε in
        let st : f.start ≡ climb v s.body.leaf s.body.inner s.body.levels f.leaf = r.start ∙ ap (λ (u : ℕ). climb u s.body.leaf s.body.inner s.body.levels f.leaf) vw in
        let wi : f.within ≡ sum_by (len v) (take f.slot l) = r.within ∙ ap (λ (u : ℕ). sum_by (len u) (take f.slot l)) vw in
        let s0 : climb 0 s.body.leaf s.body.inner s.body.levels f.leaf ≡ sum_by (len 0) F = climb_at s i.before f.leaf i.after (above s) b' 0 in
        let e1 = r.effect in
        let e2 = r.within_effect in
        let p1 = r.prepare_start in
        let p2 = r.within_prepare in
        let av : sum_by (len v) (F ++ take f.slot l) ≡ sum_by (len v) F + sum_by (len v) (take f.slot l) = sum_by_append (len v) F (take f.slot l) in
        let a1 : sum_by (len ε) (F ++ take f.slot l) ≡ sum_by (len ε) F + sum_by (len ε) (take f.slot l) = sum_by_append (len ε) F (take f.slot l) in
        let a0 : sum_by (len 0) (F ++ take f.slot l) ≡ sum_by (len 0) F + sum_by (len 0) (take f.slot l) = sum_by_append (len 0) F (take f.slot l) in
        record {
          front = F ++ take f.slot l;
          behind = drop (suc f.slot) l ++ cat s.body.leaf.slots i.after;
          right = r;
          row = ap (cat s.body.leaf.slots) i.row ∙ cat_append s.body.leaf.slots i.before (f.leaf ∷ i.after)
              ∙ ap (λ (z : List Slot). F ++ (z ++ cat s.body.leaf.slots i.after)) (split_at l f.slot no_slot r.slot_in_law)
              ∙ shape F (take f.slot l) (slot_at s f.leaf f.slot ∷ drop (suc f.slot) l) (cat s.body.leaf.slots i.after);
          sums = omega arith;
          inside = lt;
          effect = omega arith;
          prepare = omega arith;
        }
      where
        shape : (X T D Y : List Slot) → X ++ ((T ++ D) ++ Y) ≡ (X ++ T) ++ (D ++ Y)
        shape X T D Y = simp append_assoc
