-- `sheetrun::pages`: what print answers is the number of pages, of the row's sheet where the tree stands for one.
use mathlib.Core.Path.{ap}
use native.Mathlib.Omega.{arith}
use Rattle.model.specs.Numbered.{numbered}
use Rattle.sheetrun.proofs.TurnLaws.{pages_in, pages_are, not_refused}
use Rattle.sheetrun.proofs.pages.Goals as goal

pub returns-in-Ok : goal.returns-in-Ok
returns-in-Ok c =
    let print = c.print in
    record { upper_bound = pages_in _ _ _ _ print.ensures _ (ap numbered c.in-Ok.is); value = λ cs st l. pages_are _ _ _ _ print.ensures cs st l _ (ap numbered c.in-Ok.is) }

pub returns-in-Err : goal.returns-in-Err
returns-in-Err c =
    let print = c.print in
    record { upper_bound = omega arith; value = λ cs st l. absurd (not_refused _ _ _ _ print.ensures cs st l _ (ap numbered c.in-Err.is)) }
