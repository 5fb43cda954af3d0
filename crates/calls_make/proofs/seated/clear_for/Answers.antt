-- `calls_make::seated::clear_for`: a tree begun anew has no charges, a refusal leaves them.
use Rattle.std.proofs.Common.{ℕ, List, get_or, refl, ap, ◌∙◌}
use Rattle.model.specs.Numbered.{numbered}
use Rattle.tree_seats.specs.Words.{seats_from}
use Rattle.tree_seats.proofs.WriteLaws.{seats_cleared, flag_cleared}
use Rattle.calls_make.proofs.SeatedLaws.{reset_done, reset_kept}
use Rattle.calls_make.proofs.seated.clear_for.Goals as goal

pub returns-in-Ok : goal.returns-in-Ok
returns-in-Ok c =
    let words = c.clear.ensures in (
      reset_done _ _ _ (ap numbered c.in-Ok.is) (ap seats_from words ∙ seats_cleared c.args.seats.now c.requires),
      ap (λ (w : List ℕ). get_or w 0 0) words ∙ flag_cleared c.args.seats.now c.requires,
    )

pub returns-in-Err : goal.returns-in-Err
returns-in-Err c = (reset_kept _ _ _ (ap numbered c.in-Err.is), refl)
