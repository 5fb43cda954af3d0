-- The totals of some leaves, leaf by leaf. Assumes nothing.
use mathlib.Core.Path.{◌≡◌, refl, sym, ap, ◌∙◌}
use mathlib.Core.List.{List, [], ◌∷◌, flat_map}
use Prim.Native.Nat.{ℕ, ◌+◌, ◌-◌, ◌<◌, ◌≤◌}
use native.Mathlib.Omega.{arith}
use lib.ListN.{length, get_or}
use Rattle.std.specs.List.{sum_by}
use Rattle.std.proofs.lemmas.List.{get_or_read}
use Rattle.std.proofs.lemmas.List.Sums.{sum_by-cons}
use Rattle.model.specs.Lists.{part, sum_by as sum_in}
use Rattle.model.specs.Node.{total, used, length_in}
use Rattle.model.specs.State.{node_at}
use Rattle.model.specs.declared.shape.Shape.{Shape}
use Rattle.model_laws.specs.Lists.{sum_append}
use Rattle.model_laws.specs.Words.{length_part, get_d_part}
use Rattle.calls_repair_test.specs.Total.{total_in, QueueListed}

module _ (g : Shape) (leaves : List ℕ) (v : ℕ) where
  one_leaf : (k : ℕ) (ks : List ℕ) → total_in g leaves v (k ∷ ks) ≡ total v (used (node_at g k leaves)) + total_in g leaves v ks
  unfolding flat_map
  one_leaf k ks = sum_append (length_in v) (used (node_at g k leaves)) (flat_map (λ k. used (node_at g k leaves)) ks)

  no_leaf : total_in g leaves v [] ≡ 0
  unfolding flat_map sum_in
  no_leaf = refl

  -- leaf by leaf
  pub total_by : (ks : List ℕ) → sum_by (λ k. total v (used (node_at g k leaves))) ks ≡ total_in g leaves v ks
  total_by [] = sym no_leaf
  total_by (k ∷ ks) = sum_by-cons (λ k. total v (used (node_at g k leaves))) k ks ∙ ap (λ (n : ℕ). total v (used (node_at g k leaves)) + n) (total_by ks) ∙ sym (one_leaf k ks)

-- a number in the part of the queue is that of a leaf in use
pub leaf_at : (n start end x k : ℕ) (order : List ℕ) → start ≤ end → end ≤ length order → QueueListed n start end order → k < length (part start (end - start) order)
    → x ≡ get_or (part start (end - start) order) k x → x < n
leaf_at n start end x k order s e used h r =
    let l : length (part start (end - start) order) ≡ end - start = length_part start (end - start) order (omega arith) in
    let at : x ≡ get_or order (start + k) 0 = get_or_read (part start (end - start) order) k x h r 0 ∙ get_d_part start (end - start) k order (omega arith) in
    omega (arith, at, used (start + k) (omega arith) (omega arith))
