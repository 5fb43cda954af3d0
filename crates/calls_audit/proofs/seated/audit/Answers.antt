-- `calls_audit::seated::audit`: what audit says of the tree, and of a sound one whether its seats are fair.
use Rattle.model.specs.Numbered.{Numbered}
use Rattle.std.specs.Prelude.{Ok}
use Rattle.std.proofs.Common.{◌≡◌, Bool, true, false, refl, ap, ◌∙◌}
use Rattle.model.specs.SeatedCalls.{also_fair, audit_seated}
use Rattle.model_laws.specs.Handed.{handed}
use Rattle.calls_audit.proofs.seated.audit.Goals as goal

-- of a sound tree the seats decide
decided : (fair : Bool) → Ok fair ≡ also_fair fair (Ok true)
decided true = refl
decided false = refl

sound : (s fair f : Bool) (v : Numbered Bool) → Ok s ≡ v → s ≡ true → f ≡ fair → Ok f ≡ also_fair fair v
sound s fair f v e t q = rw (q, ← e, t) (decided fair)

-- of any other they aren't asked
unsound : (s fair : Bool) (v : Numbered Bool) → Ok s ≡ v → s ≡ false → Ok s ≡ also_fair fair v
unsound s fair v e t = rw (← e, t) refl

pub returns-in_err-sound : goal.returns-in_err-sound
unfolding audit_seated
returns-in_err-sound c = handed _ _ c.from_residual.ensures.1 ∙ ap (also_fair _) c.in_err-sound.ensures

pub returns-then-sound : goal.returns-then-sound
unfolding audit_seated
returns-then-sound c = sound _ _ _ _ c.in_ok-sound.ensures c.if-sound.true c.is_fair.ensures

pub returns-else-sound : goal.returns-else-sound
unfolding audit_seated
returns-else-sound c = unsound _ _ _ c.in_ok-sound.ensures c.if-sound.false
