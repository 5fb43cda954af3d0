-- The finger: what a change leaves of it is right again.
use Rattle.std.specs.Prelude.{◌≡◌, refl, Bool, true, false, List, [], ◌∷◌, ◌++◌, ℕ, ◌+◌, ◌≤◌, ◌<◌, eqb, ltb, take, Some, None, Option}
use Rattle.std.proofs.Common.{sym, ap₂, ◌∙◌, arith, eqb→eq, nltb→le, ne_eqb}
use Rattle.std.proofs.Math.Path.{ap, subst}
use Rattle.std.proofs.Math.ListN.{length}
use Rattle.model.specs.Lists.{sum_by, All}
use Rattle.model.specs.declared.head.Finger.{Finger}
use Rattle.model.specs.Locate.{rewound, changing}
use Rattle.model_tree.specs.Lists.{cat, sum_by_append}
use Rattle.model_tree.specs.Levels.{len, total, climb}
use Rattle.model_tree.specs.Rank.{climb_sum}
use Rattle.model_tree.specs.Tree.{Tree, leaf_slots, BodyAt, Right, FingerRight}
use Rattle.model_tree.specs.Edit.{leaf_here}

pub sum_by_cong : {A : Type 0} (f g : A → ℕ) (l : List A) → All (λ x. f x ≡ g x) l → sum_by f l ≡ sum_by g l
unfolding All sum_by
sum_by_cong f g [] h = refl
sum_by_cong f g (x ∷ l) h = ap₂ ◌+◌ h.0 (sum_by_cong f g l h.1)

-- where a leaf starts
pub climb_at : (s : Tree) (A : List ℕ) (k : ℕ) (B : List ℕ) (st : List (List ℕ)) → BodyAt s (A ++ k ∷ B) st → (v : ℕ)
    → climb v s.body.leaf s.body.inner s.body.levels k ≡ sum_by (len v) (cat s.body.leaf.slots A)
unfolding sum_by
climb_at s A k B st b v =
    ap (λ (d : ℕ). climb v s.body.leaf s.body.inner d k) (sym b.deep)
    ∙ climb_sum v (total s.body.leaf) s.body.leaf s.body.inner s.body.root A k B st b.links
    ∙ sums A
  where
    sums : (A : List ℕ) → sum_by (λ c. total s.body.leaf c v) A ≡ sum_by (len v) (cat s.body.leaf.slots A)
    sums [] = refl
    sums (a ∷ A) = ap (λ (n : ℕ). total s.body.leaf a v + n) (sums A) ∙ sym (sum_by_append (len v) (leaf_slots s a) (cat s.body.leaf.slots A))

-- a finger on a new leaf's number: there is none
pub changing_new : (ε : ℕ) (s : Tree) (j : ℕ) (h : Option Finger) → Right ε s h → changing s.leaves j h ≡ None
changing_new ε s j None r = refl
changing_new ε s j (Some f) r = rw (ne_eqb f.leaf s.leaves (λ e. let z = r.leaf_in_law in omega arith))

module _ (ε : ℕ) (s s' : Tree) (A : List ℕ) (k : ℕ) (B : List ℕ) (st : List (List ℕ)) (B' : List ℕ) (st' : List (List ℕ)) (j : ℕ)
    (b : BodyAt s (A ++ k ∷ B) st) (b' : BodyAt s' (A ++ k ∷ B') st')
    (before : cat s'.body.leaf.slots A ≡ cat s.body.leaf.slots A)
    (kept : (i : ℕ) → i ≤ j → take i (leaf_slots s' k) ≡ take i (leaf_slots s k)) (room : j < length (leaf_slots s' k)) where
  starts : (v : ℕ) → climb v s.body.leaf s.body.inner s.body.levels k ≡ climb v s'.body.leaf s'.body.inner s'.body.levels k
  starts v = climb_at s A k B st b v ∙ ap (sum_by (len v)) (sym before) ∙ sym (climb_at s' A k B' st' b' v)

  at_zero : (f : Finger) → f.leaf ≡ k → FingerRight ε s f → FingerRight ε s' (rewound f)
  unfolding sum_by
  at_zero f e r =
      let lk : k < s'.leaves = leaf_here s' A k B' st' b' in
      record {
        leaf_in_law = rw e lk;
        slot_in_law = subst (λ (x : ℕ). 0 < length (leaf_slots s' x)) (sym e) (omega arith);
        start = r.start ∙ ap (climb f.view s.body.leaf s.body.inner s.body.levels) e ∙ starts f.view ∙ ap (climb f.view s'.body.leaf s'.body.inner s'.body.levels) (sym e);
        effect = r.effect ∙ ap (climb ε s.body.leaf s.body.inner s.body.levels) e ∙ starts ε ∙ ap (climb ε s'.body.leaf s'.body.inner s'.body.levels) (sym e);
        within = refl;
        within_effect = refl;
        prepare_start = r.prepare_start ∙ ap (climb 0 s.body.leaf s.body.inner s.body.levels) e ∙ starts 0 ∙ ap (climb 0 s'.body.leaf s'.body.inner s'.body.levels) (sym e);
        within_prepare = refl;
      }

  at_slot : (f : Finger) → f.leaf ≡ k → f.slot ≤ j → FingerRight ε s f → FingerRight ε s' f
  at_slot f e le r =
      let lk : k < s'.leaves = leaf_here s' A k B' st' b' in
      let tk : take f.slot (leaf_slots s f.leaf) ≡ take f.slot (leaf_slots s' f.leaf)
      = ap (λ (x : ℕ). take f.slot (leaf_slots s x)) e ∙ sym (kept f.slot le) ∙ ap (λ (x : ℕ). take f.slot (leaf_slots s' x)) (sym e) in
      record {
        leaf_in_law = rw e lk;
        slot_in_law = subst (λ (x : ℕ). f.slot < length (leaf_slots s' x)) (sym e) (omega arith);
        start = r.start ∙ ap (climb f.view s.body.leaf s.body.inner s.body.levels) e ∙ starts f.view ∙ ap (climb f.view s'.body.leaf s'.body.inner s'.body.levels) (sym e);
        effect = r.effect ∙ ap (climb ε s.body.leaf s.body.inner s.body.levels) e ∙ starts ε ∙ ap (climb ε s'.body.leaf s'.body.inner s'.body.levels) (sym e);
        within = r.within ∙ ap (sum_by (len f.view)) tk;
        within_effect = r.within_effect ∙ ap (sum_by (len ε)) tk;
        prepare_start = r.prepare_start ∙ ap (climb 0 s.body.leaf s.body.inner s.body.levels) e ∙ starts 0 ∙ ap (climb 0 s'.body.leaf s'.body.inner s'.body.levels) (sym e);
        within_prepare = r.within_prepare ∙ ap (sum_by (len 0)) tk;
      }

  pub right_change : (h : Option Finger) → Right ε s h → Right ε s' (changing k j h)
  right_change None r = tt
  right_change (Some f) r = go (eqb f.leaf k) refl (ltb j f.slot) refl
    where
      go : (p : Bool) → eqb f.leaf k ≡ p → (q : Bool) → ltb j f.slot ≡ q → Right ε s' (changing k j (Some f))
      go false e q e' = rw (e) tt
      go true e true e' = rw (e, e') (at_zero f (eqb→eq f.leaf k (rw e tt)) r)
      go true e false e' = rw (e, e') (at_slot f (eqb→eq f.leaf k (rw e tt)) (nltb→le j f.slot (rw e' tt)) r)
