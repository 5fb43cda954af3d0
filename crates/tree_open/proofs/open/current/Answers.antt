-- `tree_open::open::current`: each test is one of the three of the definition, in its order.
use mathlib.Core.List.{[]}
use Rattle.model.specs.State.{state}
use Rattle.tree_open.proofs.CursorLaws.{stale_stamp, stale_leaf, stale_slot, stale_none}
use Rattle.tree_open.proofs.open.current.Goals as goal

pub returns-then-c-head : goal.returns-then-c-head
returns-then-c-head c K same =
    let args = c.args in
    stale_stamp K (state args.head args.leaves.now [] []) args.c c.if-c-head.true

pub returns-then-k-head : goal.returns-then-k-head
returns-then-k-head c K same =
    let args = c.args in
    stale_leaf K (state args.head args.leaves.now [] []) args.c c.if-c-head.false c.if-k-head.true

pub returns-then-c-len : goal.returns-then-c-len
returns-then-c-len c K same =
    let args = c.args in
    let if1 = c.if-c-head in
    let if2 = c.if-k-head in
    stale_slot K (state args.head args.leaves.now [] []) args.c _ _ same if1.false if2.false c.len_of-len.ensures c.if-c-len.true

pub returns : goal.returns
returns c K same =
    let args = c.args in
    let if1 = c.if-c-head in
    let if2 = c.if-k-head in
    stale_none K (state args.head args.leaves.now [] []) args.c _ _ same if1.false if2.false c.len_of-len.ensures c.if-c-len.false
