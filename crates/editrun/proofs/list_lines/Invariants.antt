-- `editrun::list_lines`: the lines of the numbers before this one stand in the buffer, and one more goes behind them.
use Rattle.std.proofs.Common.{◌≡◌, ◌*◌, ◌≤◌, take}
use Rattle.list_stream.specs.Text.{put}
use Rattle.editrun.specs.Printed.{lines}
use Rattle.editrun.proofs.list_lines.Given as goal

abbrev pub invariant-loop-k : goal.invariant-loop-k
invariant-loop-k l = record { room : l.end ≤ 11 * l.k-index; written : (l.end, l.out) ≡ put l.initial.out 0 (lines (take l.k-index l.area)) }
