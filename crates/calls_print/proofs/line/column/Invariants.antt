-- `calls_print::line::column`: each turn writes the last column that is left; what is left is the number without its last digit.
use Rattle.std.proofs.Common.{◌≡◌, length}
use Rattle.model.specs.Lists.{put_at}
use Rattle.calls_print.proofs.ColumnLaws.{glyphs}
use Rattle.calls_print.proofs.line.column.Given as goal

abbrev pub invariant-loop-w : goal.invariant-loop-w
invariant-loop-w l = (length l.page ≡ length l.initial.page) × (put_at l.at (glyphs l.w l.m) l.page ≡ put_at l.at (glyphs 10 l.n) l.initial.page)
