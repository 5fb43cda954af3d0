-- `calls_print::line::blank_lines`: each turn writes one of the lines that are left.
use Rattle.std.proofs.Common.{◌≡◌, ◌+◌, ◌-◌, ◌*◌, length}
use Rattle.model.specs.Lists.{put_at}
use Rattle.model.specs.Sheet.{blank_lines}
use Rattle.calls_print.proofs.line.blank_lines.Given as goal

abbrev pub invariant-loop-i : goal.invariant-loop-i
invariant-loop-i l = (length l.page ≡ length l.initial.page) × (put_at (l.at + 55 * l.i) (blank_lines (l.n - l.i)) l.page ≡ put_at l.at (blank_lines l.n) l.initial.page)
