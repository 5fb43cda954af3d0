-- `calls_read::any_lookup::locate`: the finger serves, or is broken, or the search goes from the root.
use Rattle.std.proofs.Common.{refl, ap, ◌∙◌}
use Rattle.std.specs.Prelude.{Ok}
use Rattle.model.specs.Kind.{kind}
use Rattle.tree_open.proofs.ReadyLaws.{ready, leaf_area, inner_area, view_in}
use Rattle.calls_read.proofs.LookupLaws.{locate_refused, locate_hit, locate_again, locate_broken}
use Rattle.calls_read.proofs.any_lookup.locate.Goals as goal

pub served_by-near-requires : goal.served_by-near-requires
served_by-near-requires c =
    let pre = c.requires in
    let h = ready (kind c.args.views c.args.effect) (pre.0, pre.1) _ _ _ (c.in-Ok.ensures c.args.effect) refl in
    (leaf_area _ _ h, view_in _ _ _ h pre.3, view_in _ _ _ h pre.2, h.leaves)

pub from_root-far-requires : goal.from_root-far-requires
from_root-far-requires c =
    let pre = c.requires in
    let h = ready (kind c.args.views c.args.effect) (pre.0, pre.1) _ _ _ (c.in-Ok.ensures c.args.effect) refl in
    (leaf_area _ _ h, inner_area _ _ h, view_in _ _ _ h pre.3, view_in _ _ _ h pre.2, h.levels_most, h.leaves)

pub returns-in-Err : goal.returns-in-Err
returns-in-Err c = locate_refused _ (kind c.args.views c.args.effect) c.args.view _ _ (c.in-Err.ensures c.args.effect) _ c.refused.ensures

pub returns-in-Ok-Some : goal.returns-in-Ok-Some
returns-in-Ok-Some c =
    locate_hit _ (kind c.args.views c.args.effect) c.args.view _ _ (c.in-Ok.ensures c.args.effect) _ c.served_by-near.ensures _ _
    (c.in-Ok-Some.is ∙ ap Ok (rw c.in-Ok-Some.is at c.in-Ok-Some.field-0-is)) _ c.hit.ensures

pub returns-in-Ok-None : goal.returns-in-Ok-None
returns-in-Ok-None c =
    locate_again _ (kind c.args.views c.args.effect) c.args.view _ _ (c.in-Ok.ensures c.args.effect) _ c.served_by-near.ensures
    (c.in-Ok-None.is ∙ ap Ok (rw c.in-Ok-None.is at c.in-Ok-None.field-0-is)) _ c.from_root-far.ensures _ c.by_search.ensures

pub returns-in-Err-found : goal.returns-in-Err-found
returns-in-Err-found c =
    locate_broken _ (kind c.args.views c.args.effect) c.args.view _ _ (c.in-Ok.ensures c.args.effect) _
    c.served_by-near.ensures c.in-Err-found.is _ c.refused-in-Err-found.ensures
