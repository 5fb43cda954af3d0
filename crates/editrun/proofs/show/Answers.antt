-- `editrun::show`: the text lies in the buffer.
use mathlib.Core.Path.{sym, ap}
use lib.Seq.{length-take-le}
use Rattle.model.specs.Numbered.{numbered}
use Rattle.editrun.proofs.PrintedLaws.{shown_in}
use Rattle.editrun.proofs.show.Goals as goal

pub slice_bounds-write_all-end : goal.slice_bounds-write_all-end
slice_bounds-write_all-end c =
    let answer = c.answer in
    let pre = c.requires in
    shown_in _ _ _ _ _ _ _ _ answer.ensures pre.0 _ (ap numbered c.in-Ok.is)

pub slice_bounds-write_all-end-in-Ok : goal.slice_bounds-write_all-end-in-Ok
slice_bounds-write_all-end-in-Ok c =
    let answer = c.answer in
    let pre = c.requires in
    sym (length-take-le _ _ (shown_in _ _ _ _ _ _ _ _ answer.ensures pre.0 _ (ap numbered c.in-Ok.is)))
