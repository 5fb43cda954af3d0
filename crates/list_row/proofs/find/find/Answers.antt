-- `list_row::find::find`: what is found from here on is what was to be found.
use Rattle.std.proofs.Common.{◌≡◌, refl, ◌-◌, ◌+◌, ◌∙◌, arith}
use Rattle.model_laws.specs.Handed.{handed}
use Rattle.list_row.proofs.FindLaws.{find_end, find_stops, find_goes}
use Rattle.list_row.proofs.find.find.Goals as goal

pub loop-init : goal.loop-init
loop-init c = let whole : c.args.ids.count - 0 ≡ c.args.ids.count = omega arith in rw whole

pub returns-in_err-c : goal.returns-in_err-c
returns-in_err-c c = handed _ _ c.from_residual.ensures.1 ∙ find_stops _ _ _ _ _ _ c.in_err-c.ensures _ (omega arith) _ refl ∙ c.loop.invariant

pub loop-preserved : goal.loop-preserved
loop-preserved c =
    let one : c.args.ids.count - (c.loop.counter + 1) ≡ c.args.ids.count - c.loop.counter - 1 = omega arith in
    rw one (find_goes _ _ _ _ _ _ c.in_ok-c.ensures _ (omega arith) _ refl ∙ c.loop.invariant)

pub returns : goal.returns
returns c = find_end _ _ _ _ _ _ (omega arith) ∙ c.loop.invariant
