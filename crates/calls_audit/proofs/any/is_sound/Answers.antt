-- `calls_audit::any::is_sound`: its tests are the definition's, in its order.
use Rattle.std.proofs.Common.{arith}
use Rattle.std.proofs.lemmas.Grind.{common_steps}
use Rattle.model.specs.Kind.{kind_of}
use Rattle.calls_audit.proofs.SoundLaws.{sound_by_law}
use Rattle.calls_audit.proofs.any.is_sound.Goals as goal

pub returns-then-totals : goal.returns-then-totals
returns-then-totals c views e =
    let a = c.args in
    let whole = sound_by_law (kind_of views a.effect a.ordered) a.head a.leaves.now a.inners.now a.homes.now a.g e in
    grind (arith, common_steps)

pub returns-else-totals : goal.returns-else-totals
returns-else-totals c views e =
    let a = c.args in
    let whole = sound_by_law (kind_of views a.effect a.ordered) a.head a.leaves.now a.inners.now a.homes.now a.g e in
    grind (arith, common_steps)
