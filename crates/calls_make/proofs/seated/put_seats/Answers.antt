-- `calls_make::seated::put_seats`: the words of the shares given, or of none.
use Rattle.std.proofs.Common.{sym, ap, ◌∙◌, arith, eqb-true}
use Rattle.std.proofs.lemmas.Bool.{eqb-false}
use Rattle.tree_seats.specs.Words.{seats_from}
use Rattle.tree_seats.proofs.WriteLaws.{seats_begun}
use Rattle.calls_make.proofs.SeatedLaws.{flag_at, none_given, some_given}
use Rattle.calls_make.proofs.seated.put_seats.Goals as goal

pub returns-then-is_empty : goal.returns-then-is_empty
returns-then-is_empty c =
    (none_given _ c.args.shares.now (eqb-true _ 0 (sym c.is_empty.ensures ∙ c.if-is_empty.true)) c.put_none.ensures.0, c.put_none.ensures.1)

pub begin-requires : goal.begin-requires
begin-requires c = (c.requires.0, c.requires.1 (eqb-false _ 0 (sym c.is_empty.ensures ∙ c.if-is_empty.false)))

pub returns : goal.returns
returns c =
    let shares = c.args.shares.now in
    let some = eqb-false _ 0 (sym c.is_empty.ensures ∙ c.if-is_empty.false) in
    let words = c.begin.ensures in
    (some_given _ shares some (ap seats_from words ∙ seats_begun 1 shares (c.requires.1 some)), flag_at _ _ 1 words (omega arith))
