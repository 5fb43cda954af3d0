-- `smelvock_marshal::head::put_found`: the slot's words and the leaf's are all ten; where the finger stayed in its leaf, the latter stand there.
use mathlib.Core.Path.{◌∙◌}
use Rattle.smelvock_marshal.proofs.HeadLaws.{leaf_written, slot_written}
use Rattle.smelvock_marshal.proofs.head.put_found.Goals as goal

pub returns-then-not-stayed : goal.returns-then-not-stayed
returns-then-not-stayed c =
    let present-of = c.present_of-present in
    let finger_of_law = c.finger_of-f in
    let put-slot = c.put_slot in
    c.put_leaf.ensures
    ∙ leaf_written c.args.head.now c.args.finger _ _ c.requires.0 present-of.ensures finger_of_law.ensures _ put-slot.ensures

pub returns-else-not-stayed : goal.returns-else-not-stayed
returns-else-not-stayed c =
    let present-of = c.present_of-present in
    let finger_of_law = c.finger_of-f in
    slot_written c.args.head.now c.args.finger _ _ c.requires.0 present-of.ensures finger_of_law.ensures _ c.put_slot.ensures
    (c.requires.1 (c.if-not-stayed.false))
