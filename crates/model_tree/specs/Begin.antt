-- A tree of one leaf with one entry below one inner node is sound.
use Rattle.std.specs.Prelude.{◌≡◌, refl, ℕ, ◌+◌, ◌≤◌, ◌<◌}
use Rattle.std.proofs.Math.Path.{sym, ap, subst, fun_ext}
use Rattle.std.proofs.Common.{◌∙◌}
use mathlib.Core.List.{List, [], ◌∷◌, ◌++◌}
use native.Mathlib.Omega.{arith}
use Rattle.std.proofs.Math.ListN.{length}
use Rattle.model.specs.Lists.{sum_by, All}
use Rattle.model_tree.specs.Levels.{Slot, Mark, marks, said, total, len, none, Links}
use Rattle.model_tree.specs.Tree.{Tree, row, BodyAt, Body, to_body, same_row}

-- e is the entry, u the slot above its leaf
pub record Fresh (s : Tree) (e u : Slot) : Type 0 where
  pub fan_low : 4 ≤ s.fan
  pub fan_high : s.fan ≤ 32
  pub limit_low : 1 ≤ s.limit
  pub limit_high : s.limit ≤ 65536
  pub root : s.body.root ≡ 0
  pub next : s.body.next ≡ 1
  pub levels : s.body.levels ≡ 1
  pub leaves : s.leaves ≡ 1
  pub entries : s.entries ≡ 1
  pub leaf_slots_law : s.body.leaf.slots 0 ≡ e ∷ []
  pub leaf_parent : s.body.leaf.parent 0 ≡ 0
  pub leaf_place : s.body.leaf.place 0 ≡ 0
  pub inner_slots : s.body.inner.slots 0 ≡ u ∷ []
  pub inner_parent : s.body.inner.parent 0 ≡ none
  pub inner_place : s.body.inner.place 0 ≡ 0
  pub home : s.homes 0 ≡ 0
  pub id : e.child ≡ 0
  pub above : u.child ≡ 0
  pub sums : (v : ℕ) → u.lens v ≡ e.lens v
  pub small : (v : ℕ) → e.lens v < 4294967296

module _ (s : Tree) (e u : Slot) (f : Fresh s e u) where
  one : (k : ℕ) → k < 1 → k ≡ 0
  one k lt = omega arith

  fresh_links : Links (total s.body.leaf) s.body.leaf s.body.inner s.body.root (0 ∷ []) ((0 ∷ []) ∷ [])
  unfolding sum_by
  fresh_links = (
    ap {B = List Mark} (λ (m : Mark). m ∷ []) mark ∙ sym (ap {B = List Mark} (λ (ss : List Slot). marks 0 0 ss ++ []) f.inner_slots),
    rw f.root (refl, f.inner_parent, f.inner_place),
  )
    where
      weight : (v : ℕ) → e.lens v + 0 ≡ u.lens v
      weight v = (let z = f.sums v in omega arith)

      mark : said (total s.body.leaf) s.body.leaf 0 ≡ record { num = u.child; par = 0; pos = 0; wt = u.lens }
      mark = λ i. record { num = sym f.above i; par = f.leaf_parent i; pos = f.leaf_place i; wt = fun_ext (λ v. ap (sum_by (len v)) f.leaf_slots_law ∙ weight v) i }

  fresh_at : BodyAt s (0 ∷ []) ((0 ∷ []) ∷ [])
  unfolding All sum_by
  fresh_at =
      let r : s.body.leaf.slots 0 ++ [] ≡ e ∷ [] = rw f.leaf_slots_law in
      let z = f.root in let n = f.next in let v = f.levels in let l = f.leaves in let t = f.entries in let g = f.limit_low in let q = f.fan_low in
      record {
        fan_low = f.fan_low;
        fan_high = f.fan_high;
        limit_low = f.limit_low;
        limit_high = f.limit_high;
        some = omega arith;
        room = omega arith;
        few = omega arith;
        deep = sym f.levels;
        links = fresh_links;
        leaf_in_law = (omega arith, tt);
        leaf_all = λ k lt a. a.0 (sym (one k (omega arith)));
        inner_in_law = ((omega arith, tt), tt);
        inner_all = λ k lt a. a.0.0 (sym (one k (omega arith)));
        leaf_most = λ k lt. subst (λ (j : ℕ). length (s.body.leaf.slots j) ≤ s.fan) (sym (one k (omega arith))) (rw f.leaf_slots_law (omega arith));
        leaf_least = λ k lt h. absurd (omega arith);
        leaf_one = λ k lt. subst (λ (j : ℕ). 1 ≤ length (s.body.leaf.slots j)) (sym (one k (omega arith))) (rw f.leaf_slots_law (omega arith));
        fit = record {
          most = λ k lt. subst (λ (j : ℕ). length (s.body.inner.slots j) ≤ s.fan) (sym (one k (omega arith))) (rw f.inner_slots (omega arith));
          least = λ k lt ne. absurd (ne (one k (omega arith) ∙ sym f.root));
          two = rw (f.root, f.inner_slots) (omega arith);
          root_in = omega arith;
        };
        two = λ h. absurd (omega arith);
        homed = λ k lt. subst (λ (j : ℕ). All (λ x. s.homes x.child ≡ j) (s.body.leaf.slots j)) (sym (one k (omega arith))) (rw f.leaf_slots_law (ap s.homes f.id ∙ f.home, tt));
        below = λ k lt. subst (λ (j : ℕ). All (λ x. x.child < s.entries) (s.body.leaf.slots j)) (sym (one k (omega arith))) (rw f.leaf_slots_law (let y = f.id in omega arith, tt));
        once = rw r (tt, tt);
        count = ap length r ∙ sym f.entries;
        totals = λ v. rw r (let y = f.small v in omega arith);
      }

  pub fresh_body : Body s
  fresh_body = to_body s (0 ∷ []) ((0 ∷ []) ∷ []) fresh_at

  pub fresh_row : row s ≡ e ∷ []
  fresh_row = same_row s (0 ∷ []) ((0 ∷ []) ∷ []) fresh_at ∙ rw f.leaf_slots_law
