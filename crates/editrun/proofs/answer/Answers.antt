-- `editrun::answer`: the lines of what the call lists, of the bytes held and so of the input.
use Rattle.std.specs.Prelude.{ℕ}
use mathlib.Core.Path.{refl, sym, subst}
use lib.Seq.{length-take-le}
use Rattle.model.specs.Numbered.{Numbered}
use Rattle.model_laws.specs.Handed.{handed}
use Rattle.editrun.specs.Printed.{Answered}
use Rattle.editrun.proofs.PrintedLaws.{lines_fit, is_printed, is_refused}
use Rattle.editrun.proofs.answer.Goals as goal

pub slice_bounds-difference-end : goal.slice_bounds-difference-end
slice_bounds-difference-end c =
    let args = c.args in
    let pre = c.requires in
    sym (length-take-le args.have args.block.now pre.0)

pub list_lines-requires : goal.list_lines-requires
list_lines-requires c =
    let pre = c.requires in
    let args = c.args in
    lines_fit args.block.now args.have args.area.now args.first args.second _ _ c.in_ok-n.ensures _ refl pre.1 args.out.now pre.2

pub returns-in_err-n : goal.returns-in_err-n
returns-in_err-n c =
    let args = c.args in
    λ input held. subst (λ (x : Numbered ℕ). Answered x input args.first args.second args.area.now args.out.now args.out.now) (sym (handed _ _ c.from_residual.ensures.1))
    (is_refused _ _ _ _ _ _ _ c.in_err-n.ensures input held _ refl)

pub returns : goal.returns
returns c = λ input held. is_printed _ _ _ _ _ _ _ c.in_ok-n.ensures input held _ _ _ _ refl c.list_lines.ensures.out_after c.list_lines.ensures.upper_bound
