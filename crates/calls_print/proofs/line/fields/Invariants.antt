-- `calls_print::line::fields`: each turn writes the first of the numbers that are left, and the blank behind it.
use Rattle.std.proofs.Common.{◌≡◌, ◌+◌, ◌*◌, length, drop}
use Rattle.model.specs.Lists.{put_at}
use Rattle.calls_print.specs.Columns.{fields}
use Rattle.calls_print.proofs.line.fields.Given as goal

abbrev pub invariant-loop-n : goal.invariant-loop-n
invariant-loop-n l = (l.p ≡ l.at + 11 * l.n-index) × (length l.page ≡ length l.initial.page) × (put_at l.p (fields (drop l.n-index l.numbers)) l.page ≡ put_at l.at (fields l.numbers) l.initial.page)
