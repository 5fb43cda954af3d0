-- `list_row::run::all`: what is written so far, with what the records left will give, is what all of them give.
use Rattle.std.proofs.Common.{◌≡◌, ◌-◌, ◌*◌, ◌/◌, length}
use Rattle.model.specs.State.{state}
use Rattle.list_row.specs.Run.{records_of, turns}
use Rattle.list_row.proofs.RunLaws.{onward}
use Rattle.list_row.proofs.run.all.Given as goal

abbrev pub invariant-loop-i : goal.invariant-loop-i
invariant-loop-i l = turns (state l.initial.h l.initial.leaves l.initial.inners l.initial.homes) (records_of l.records) ≡ onward (state l.h l.leaves l.inners l.homes) l.records l.out (16 * l.i) (length l.records / 16 - l.i)
