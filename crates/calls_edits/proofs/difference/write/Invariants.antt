-- `calls_edits::difference::write`: what is left to list, written behind what is listed, makes the whole list.
use Rattle.std.proofs.Common.{◌≡◌, ◌-◌, ◌≤◌}
use Rattle.calls_edits.specs.Walk.{listed, written_from, written}
use Rattle.calls_edits.proofs.difference.write.Given as goal

abbrev pub invariant-loop-k : goal.invariant-loop-k
invariant-loop-k l = (l.count ≤ l.k) × (written_from (listed l.one l.two) l.k (l.n - l.k) l.count l.area ≡ written (listed l.one l.two) l.n l.initial.area)
