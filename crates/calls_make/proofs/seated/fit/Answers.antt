-- `calls_make::seated::fit`: without shares no cause is added, else the one that their sum is tested for.
use Rattle.std.proofs.Common.{sym, ◌∙◌, eqb-true}
use Rattle.std.proofs.lemmas.Bool.{eqb-false}
use Rattle.calls_make.proofs.SeatedLaws.{none_high, some_high}
use Rattle.calls_make.proofs.seated.fit.Goals as goal

pub returns-then-is_empty : goal.returns-then-is_empty
returns-then-is_empty c = none_high c.args.limit c.args.shares.now (eqb-true _ 0 (sym c.is_empty.ensures ∙ c.if-is_empty.true))

pub within-requires : goal.within-requires
within-requires c = c.requires (eqb-false _ 0 (sym c.is_empty.ensures ∙ c.if-is_empty.false))

pub returns : goal.returns
returns c = some_high c.args.limit c.args.shares.now (eqb-false _ 0 (sym c.is_empty.ensures ∙ c.if-is_empty.false)) _ c.within.ensures
