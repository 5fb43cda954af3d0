-- `calls_edits::difference::difference`: 11, 12, then check's number, and on an accepted file the list.
use mathlib.Core.Path.{sym, ap, ◌∙◌}
use native.Mathlib.Omega.{arith}
use Rattle.std.specs.Prelude.{ℕ}
use Rattle.model.specs.Numbered.{Numbered}
use Rattle.model_laws.specs.Handed.{handed}
use Rattle.calls_edits.specs.Answered.{differs}
use Rattle.calls_edits.proofs.difference.difference.Goals as goal

pub returns-then-file-ne0 : goal.returns-then-file-ne0
returns-then-file-ne0 c = sym ((differs _ _ _ _).cut c.if-file-ne0.true)

pub returns-then-area-lt512 : goal.returns-then-area-lt512
returns-then-area-lt512 c = sym ((differs _ _ _ _).narrow c.if-file-ne0.false c.if-area-lt512.true)

pub list-requires : goal.list-requires
list-requires c = (sym c.in_ok-check.ensures, omega (arith, c.if-area-lt512.false))

pub returns-in_err-check : goal.returns-in_err-check
returns-in_err-check c =
    ap (λ (r : Numbered ℕ). (r, c.args.area.now)) (handed _ _ c.from_residual.ensures.1) ∙ sym ((differs _ _ _ _).same (omega (arith, c.if-area-lt512.false)) _ (sym c.in_err-check.ensures))
