-- `calls_by_id::any::locate`: the lookup, then the id at the cursor that it gave, on the head that it left.
use Rattle.model.specs.Kind.{kind}
use Rattle.calls_by_id.proofs.ReadLaws.{lookup_found}
use Rattle.calls_by_id.proofs.any.locate.Goals as goal

pub returns : goal.returns
returns c =
    let a = c.args in
    lookup_found (kind a.views a.effect) _ _ a.view _ _ _ c.locate-r.ensures.0 _ (c.at_id.ensures a.effect)
