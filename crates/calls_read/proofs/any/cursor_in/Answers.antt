-- `calls_read::any::cursor_in`: a leaf that says no more than it has is searched for the id.
use Rattle.std.proofs.Common.{◌∙◌, ap, arith}
use Rattle.std.specs.Prelude.{Err}
use Rattle.model.specs.Numbered.{refusal_number}
use Rattle.model.specs.declared.refusal.Refusal.{Refusal}
use Rattle.model_laws.specs.Handed.{handed, none_refused}
use Rattle.calls_read.proofs.ReadLaws.{home_over, home_few, home_slot}
use Rattle.calls_read.proofs.any.cursor_in.Goals as goal

pub returns-then-len_of-g : goal.returns-then-len_of-g
returns-then-len_of-g c = home_over c.args.g _ _ _ _ (rw c.len_of.ensures at c.if-len_of-g.true)

pub overflow_cast-result : goal.overflow_cast-result
overflow_cast-result c =
    omega (arith, home_slot c.args.g _ _ _ c.args.stamp c.requires.0.shaped (rw c.len_of.ensures at c.if-len_of-g.false) _ _ c.slot_of.ensures c.in_ok-i.ensures.ok_part)

pub returns-in_err-i : goal.returns-in_err-i
returns-in_err-i c =
    let n = none_refused c.slot_of.result _ _ c.in_err-i.ensures.value c.in_err-i.ensures.ok_part in
    handed _ _ c.from_residual.ensures.1 ∙ ap (λ (r : Refusal). Err (refusal_number r)) n
    ∙ home_few c.args.g _ _ _ _ (rw c.len_of.ensures at c.if-len_of-g.false) _ _ c.slot_of.ensures c.in_err-i.ensures.ok_part

pub returns : goal.returns
returns c = home_few c.args.g _ _ _ _ (rw c.len_of.ensures at c.if-len_of-g.false) _ _ c.slot_of.ensures c.in_ok-i.ensures.ok_part
