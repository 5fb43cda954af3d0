-- The len is tested, then each slot in use.
use mathlib.Core.Path.{◌∙◌}
use Prim.Native.Nat.{suc}
use Rattle.model.specs.Kind.{kind_of}
use Rattle.calls_repair_test.proofs.LensLaws.{and_first, and_second, leaf_long, leaf_slots_law}
use Rattle.calls_repair_test.proofs.lens.is_fit_leaf.Goals as goal

pub returns-else-is_long : goal.returns-else-is_long
returns-else-is_long c views effect e =
    let args = c.args in
    let len_of_lem = c.len_of-len in
    c.if-is_long.false ∙ and_first _ _ _ (leaf_long (kind_of views effect args.ordered) args.head args.leaves.now _ _ _ _ _ e len_of_lem.ensures
    (c.least_leaf.ensures (suc views)) c.is_long.ensures) (c.if-is_long.false)

pub returns-then-is_long : goal.returns-then-is_long
returns-then-is_long c views effect e =
    let args = c.args in
    let len_of_lem = c.len_of-len in
    let least-leaf = c.least_leaf in
    and_second _ _ _ _ (leaf_long (kind_of views effect args.ordered) args.head args.leaves.now _ _ _ _ _ e len_of_lem.ensures (least-leaf.ensures (suc views))
    c.is_long.ensures) (c.if-is_long.true)
    (c.are_fit_slots.ensures ∙ leaf_slots_law views effect args.ordered args.head args.leaves.now _ _ _ e len_of_lem.ensures)
