-- `calls_by_id::look::locate`: the lookup on a tree of any kind, with three lengths an entry and the effect as view 1.
use mathlib.Core.Path.{◌∙◌}
use Rattle.calls_by_id.proofs.ReadLaws.{lookup_step}
use Rattle.calls_by_id.proofs.look.locate.Goals as goal

pub returns : goal.returns
returns c = rw c.number.ensures at c.locate.ensures ∙ lookup_step _ _ _
