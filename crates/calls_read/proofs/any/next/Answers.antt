-- `calls_read::any::next`: the slot after in the same leaf, or slot 0 of the leaf after.
use Rattle.std.proofs.Common.{refl, ◌∙◌, arith}
use Rattle.model.specs.Kind.{kind}
use Rattle.model_laws.specs.Handed.{handed}
use Rattle.tree_open.proofs.ReadyLaws.{inner_area}
use Rattle.tree_open.proofs.CursorLaws.{cursor_ready, slot_in_law}
use Rattle.calls_read.proofs.OrderLaws.{next_refused, next_here, next_on}
use Rattle.calls_read.proofs.any.next.Goals as goal

pub overflow_add-i : goal.overflow_add-i
overflow_add-i c =
    let h = cursor_ready (kind c.args.views 0) c.requires _ c.args.at _ _ (c.in_ok-g.ensures 0) refl in
    omega (arith, (slot_in_law _ c.args.at _ h).2, h.ready.shaped.few)

pub len_of-requires : goal.len_of-requires
len_of-requires c =
    let i = slot_in_law _ c.args.at _ (cursor_ready (kind c.args.views 0) c.requires _ c.args.at _ _ (c.in_ok-g.ensures 0) refl) in (i.0, i.1)

pub returns-then-i-len_of : goal.returns-then-i-len_of
returns-then-i-len_of c effect = next_here (kind c.args.views effect) _ c.args.at _ (c.in_ok-g.ensures effect) _ c.len_of.ensures c.if-i-len_of.true

pub parent_of-parent-requires : goal.parent_of-parent-requires
parent_of-parent-requires c =
    let i = slot_in_law _ c.args.at _ (cursor_ready (kind c.args.views 0) c.requires _ c.args.at _ _ (c.in_ok-g.ensures 0) refl) in (i.0, i.1)

pub at_of-place-requires : goal.at_of-place-requires
at_of-place-requires c =
    let i = slot_in_law _ c.args.at _ (cursor_ready (kind c.args.views 0) c.requires _ c.args.at _ _ (c.in_ok-g.ensures 0) refl) in (i.0, i.1)

pub next_up-requires : goal.next_up-requires
next_up-requires c =
    let h = cursor_ready (kind c.args.views 0) c.requires _ c.args.at _ _ (c.in_ok-g.ensures 0) refl in (inner_area _ _ h.ready, h.ready.levels_most)

pub returns-in_err-g : goal.returns-in_err-g
returns-in_err-g c effect = handed _ _ c.from_residual.ensures.1 ∙ next_refused (kind c.args.views effect) _ c.args.at _ (c.in_err-g.ensures effect)

pub returns-in_err-after : goal.returns-in_err-after
returns-in_err-after c effect =
    handed _ _ c.from_residual-in_err-after.ensures.1
    ∙ next_on (kind c.args.views effect) _ c.args.at _ (c.in_ok-g.ensures effect) _ c.len_of.ensures c.if-i-len_of.false _ _ _ c.parent_of-parent.ensures
    c.at_of-place.ensures c.in_err-after.ensures

pub returns-in-Some : goal.returns-in-Some
returns-in-Some c effect =
    rw c.in-Some.is at (next_on (kind c.args.views effect) _ c.args.at _ (c.in_ok-g.ensures effect) _ c.len_of.ensures c.if-i-len_of.false _ _ _ c.parent_of-parent.ensures
    c.at_of-place.ensures c.in_ok-after.ensures)

pub returns-in-None : goal.returns-in-None
returns-in-None c effect =
    rw c.in-None.is at (next_on (kind c.args.views effect) _ c.args.at _ (c.in_ok-g.ensures effect) _ c.len_of.ensures c.if-i-len_of.false _ _ _ c.parent_of-parent.ensures
    c.at_of-place.ensures c.in_ok-after.ensures)
