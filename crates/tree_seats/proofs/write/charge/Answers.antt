-- `tree_seats::write::charge`: nobody or one of eight is charged.
use Rattle.std.proofs.Common.{ℕ, List, get_or, refl, ap, ◌∙◌}
use Rattle.tree_seats.specs.Words.{seats_from}
use Rattle.tree_seats.proofs.RuleLaws.{good_number}
use Rattle.tree_seats.proofs.WriteLaws.{flag_kept, one_charged, charged_nobody, charged_number}
use Rattle.tree_seats.proofs.write.charge.Goals as goal

pub one_more-requires : goal.one_more-requires
one_more-requires c = (c.requires.0, good_number c.args.seats.now c.args.seat _ c.requires.1 c.in-Some.is)

pub returns-in-None : goal.returns-in-None
returns-in-None c = (charged_nobody _ c.args.seat c.in-None.is, refl)

pub returns-in-Some : goal.returns-in-Some
returns-in-Some c =
    let a = c.args in
    let seat = c.in-Some.is in
    let i = good_number a.seats.now a.seat _ c.requires.1 seat in
    let words = c.one_more.ensures in (
      charged_number _ a.seat _ seat _ (ap seats_from words ∙ one_charged a.seats.now _ i),
      ap (λ (w : List ℕ). get_or w 0 0) words ∙ flag_kept a.seats.now _ i _,
    )
