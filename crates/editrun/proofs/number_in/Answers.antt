-- `editrun::number_in`: what the digits from here on say behind those that say n is what all of them say.
use Rattle.std.proofs.Common.{◌≡◌, sym, ◌∙◌, length, arith}
use borrow.Author.Tests.{eqb-true, eqb-false}
use Rattle.editrun.proofs.AskedLaws.{empty, long, no_digits, by_digits, too_low, too_high, more_digits, more_said, all_digits, all_said, said_less}
use Rattle.editrun.proofs.number_in.Goals as goal
use Rattle.editrun.proofs.number_in.Goals.{then-is_empty-via-then-is_empty, then-is_empty-via-else-is_empty+then-text-gt10}

pub returns-then-is_empty : goal.returns-then-is_empty
returns-then-is_empty c = elim c.then-is_empty.branch [
  | then-is_empty-via-then-is_empty w ↦ let none : length c.args.text.now ≡ 0 = eqb-true _ 0 (sym c.is_empty.ensures ∙ w.if-is_empty.true) in empty _ (omega arith)
  | then-is_empty-via-else-is_empty+then-text-gt10 w ↦ let some : length c.args.text.now ≡ 0 → ⊥ = eqb-false _ 0 (sym c.is_empty.ensures ∙ w.if-is_empty.false) in long _ (omega arith) w.if-text-gt10.true
]

pub returns-then-b-lt48 : goal.returns-then-b-lt48
returns-then-b-lt48 c = no_digits _ (omega arith) c.if-text-gt10.false (too_low _ _ c.loop-b-test.true c.loop-b.invariant.digits c.if-b-lt48.true)

pub returns-then-b-gt57 : goal.returns-then-b-gt57
returns-then-b-gt57 c = no_digits _ (omega arith) c.if-text-gt10.false (too_high _ _ c.loop-b-test.true c.loop-b.invariant.digits c.if-b-lt48.false c.if-b-gt57.true)

pub loop-b-preserved : goal.loop-b-preserved
loop-b-preserved c =
    let it = c.loop-b.invariant in
    record {
      small = rw c.from.ensures (said_less _ _ _ it.small c.if-b-gt57.false);
      said = rw c.from.ensures (more_said _ _ c.loop-b-test.true it.digits _ it.said c.if-b-lt48.false c.if-b-gt57.false);
      digits = more_digits _ _ c.loop-b-test.true it.digits _ it.said c.if-b-lt48.false c.if-b-gt57.false;
    }

pub returns : goal.returns
returns c =
    let some : length c.args.text.now ≡ 0 → ⊥ = eqb-false _ 0 (sym c.if-is_empty.ensures) in
    by_digits _ (omega arith) c.if-text-gt10.false _ _ (all_digits _ _ c.loop-b-test.false c.loop-b.invariant.digits) (all_said _ _ _ c.loop-b-test.false c.loop-b.invariant.said) c.word.ensures
