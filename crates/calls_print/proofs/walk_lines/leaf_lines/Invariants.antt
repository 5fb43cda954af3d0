-- `calls_print::walk_lines::leaf_lines`: each turn writes the line of the first slot that is left.
use Rattle.std.proofs.Common.{◌≡◌, ◌+◌, ◌*◌, length, take, drop}
use Rattle.model.specs.State.{node_at}
use Rattle.calls_print.specs.Laid.{laid, laid_by}
use Rattle.calls_print.proofs.walk_lines.leaf_lines.Given as goal

abbrev pub invariant-loop-i : goal.invariant-loop-i
invariant-loop-i l = (l.at ≡ l.initial.at + 55 * l.i) × (length l.page ≡ length l.initial.page)
    × (laid_by l.view (drop l.i (take l.n (node_at l.g l.k.0 l.leaves).slots)) (laid l.at l.p l.q l.page) ≡ laid_by l.view (take l.n (node_at l.g l.k.0 l.leaves).slots) (laid l.initial.at l.initial.p l.initial.q l.initial.page))
