-- `calls_read::any::entry_to_char_index`: the lengths before the slot in its leaf, and those before the leaf on the way up.
use Rattle.std.proofs.Common.{refl, ◌∙◌, arith}
use Rattle.model.specs.Kind.{kind}
use Rattle.model_laws.specs.Handed.{handed}
use Rattle.tree_open.proofs.CursorLaws.{cursor_ready, slot_in_law}
use Rattle.tree_open.proofs.ReadyLaws.{inner_area, view_in}
use Rattle.calls_read.proofs.OrderLaws.{rank_refused, rank_good}
use Rattle.calls_read.proofs.any.entry_to_char_index.Goals as goal

pub start_in-before-requires : goal.start_in-before-requires
start_in-before-requires c =
    let pre = c.requires in
    let h = cursor_ready (kind c.args.views 0) (pre.0, pre.1) _ c.args.at _ _ (c.in_ok-g.ensures 0) refl in
    let i = slot_in_law _ c.args.at _ h in
    (i.0, i.1, view_in _ _ _ h.ready pre.2, omega (arith, i.2))

pub parent_of-parent-requires : goal.parent_of-parent-requires
parent_of-parent-requires c =
    let i = slot_in_law _ c.args.at _ (cursor_ready (kind c.args.views 0) (c.requires.0, c.requires.1) _ c.args.at _ _ (c.in_ok-g.ensures 0) refl) in (i.0, i.1)

pub at_of-place-requires : goal.at_of-place-requires
at_of-place-requires c =
    let i = slot_in_law _ c.args.at _ (cursor_ready (kind c.args.views 0) (c.requires.0, c.requires.1) _ c.args.at _ _ (c.in_ok-g.ensures 0) refl) in (i.0, i.1)

pub rank_up-requires : goal.rank_up-requires
rank_up-requires c =
    let pre = c.requires in
    let h = cursor_ready (kind c.args.views 0) (pre.0, pre.1) _ c.args.at _ _ (c.in_ok-g.ensures 0) refl in
    (inner_area _ _ h.ready, view_in _ _ _ h.ready pre.2, h.ready.levels_most, c.start_in-before.ensures.1)

pub returns-in_err-g : goal.returns-in_err-g
returns-in_err-g c effect =
    handed _ _ c.from_residual.ensures.1 ∙ rank_refused (kind c.args.views effect) _ c.args.at c.args.view _ (c.in_err-g.ensures effect)

pub returns-in_err-n : goal.returns-in_err-n
returns-in_err-n c effect =
    handed _ _ c.from_residual-in_err-n.ensures.1
    ∙ rank_good (kind c.args.views effect) _ c.args.at _ (c.in_ok-g.ensures effect) c.args.view _ _ _ _ c.start_in-before.ensures.0 c.parent_of-parent.ensures
    c.at_of-place.ensures c.in_err-n.ensures

pub returns : goal.returns
returns c effect =
    rank_good (kind c.args.views effect) _ c.args.at _ (c.in_ok-g.ensures effect) c.args.view _ _ _ _ c.start_in-before.ensures.0 c.parent_of-parent.ensures
    c.at_of-place.ensures c.in_ok-n.ensures
