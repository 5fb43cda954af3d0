-- The child's link is written, then the slot, whose sums are read from the child; by the level that is a leaf or an inner node.
use mathlib.Core.Path.{sym, ap, ap₂, subst, ◌∙◌}
use mathlib.Core.Bool.{false}
use mathlib.Core.List.{List}
use Prim.Native.Nat.{ℕ, ◌+◌}
use native.Mathlib.Omega.{arith}
use lib.ListN.{take}
use Rattle.model.specs.Node.{slot_for}
use Rattle.model.specs.State.{node_at}
use Rattle.tree_words.specs.Tally.{tallied}
use Rattle.calls_repair_write.specs.Toward.{SlotDone}
use Rattle.calls_repair_write.proofs.SlotLaws.{by_level, leaf_done, inner_done}
use Rattle.calls_repair_write.proofs.inner.over.Goals as goal
use Rattle.calls_repair_write.proofs.inner.over.Goals.{then-lowest, else-lowest}

pub returns : goal.returns
returns c =
    let args = c.args in
    let pre = c.requires in
    let now = c.if-lowest in
    let slot = c.slot in
    elim now.branch [
      | then-lowest w ↦ (
        omega (arith, w.below-n.ensures.1, w.n-is, slot.ensures.1),
        λ m v. by_level _ _ _ _ _ _ _ m _ _ _ _ w.if-lowest.true (λ z. leaf_done args.g args.c args.p args.i pre.0.shaped pre.2 pre.3 pre.4 m _ _ _ _ _ _ _ pre.0.room pre.1.room
            (ap₂ (λ (n : ℕ) (ls : List ℕ). (n, ls)) w.n-is w.leaves-is ∙ w.below-n.ensures.0)
            (ap (take args.g.stride) w.x-is ∙ w.below-n.ensures.2 ∙ ap (λ (ls : List ℕ). slot_for args.g.stride args.c (node_at args.g args.c ls)) (sym w.leaves-is))
            (slot.ensures.0 ∙ ap (tallied _ _) w.inners-is) z) v,
      )
      | else-lowest w ↦ (
        omega (arith, w.below-n-else-lowest.ensures.1, w.n-is, slot.ensures.1),
        λ m v. by_level _ _ _ _ _ _ _ m _ _ _ _ w.if-lowest.false (λ z. subst (λ (ls : List ℕ). SlotDone args.g false args.c args.p args.i m args.leaves.now args.inners.now (now.n + slot.result) ls slot.new.area) (sym w.leaves-is)
            (inner_done args.g args.c args.p args.i pre.0.shaped pre.2 pre.3 pre.4 m _ _ _ _ _ _ _ pre.1.room
            (ap₂ (λ (n : ℕ) (xs : List ℕ). (n, xs)) w.n-is w.inners-is ∙ w.below-n-else-lowest.ensures.0)
            (ap (take args.g.stride) w.x-is ∙ w.below-n-else-lowest.ensures.2 ∙ ap (λ (xs : List ℕ). slot_for args.g.stride args.c (node_at args.g args.c xs)) (sym w.inners-is))
            slot.ensures.0 z)) v,
      )
    ]
