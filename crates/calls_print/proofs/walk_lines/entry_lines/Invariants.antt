-- `calls_print::walk_lines::entry_lines`: each turn writes the lines of a leaf and goes on to the next; it ends where nothing more is met.
use Rattle.model.specs.Climb.{first_down}
use Rattle.model_laws.specs.Met.{Within}
use Rattle.calls_print.specs.Laid.{laid}
use Rattle.calls_print.proofs.WalkLaws.{Going}
use Rattle.calls_print.proofs.walk_lines.entry_lines.Given as goal

abbrev pub invariant-loop-left : goal.invariant-loop-left
invariant-loop-left l = Within l.g l.leaf × Going l.effect l.g l.levels l.leaves l.inners l.entries (first_down l.g l.levels l.root l.inners) l.initial.page l.left l.leaf (laid l.lines.at l.lines.p l.lines.q l.page)

abbrev pub decreases-loop-left : goal.decreases-loop-left
decreases-loop-left l = l.left
