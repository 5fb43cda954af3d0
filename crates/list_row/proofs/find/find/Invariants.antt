-- `list_row::find::find`: what is found from here on is what was to be found.
use Rattle.std.proofs.Common.{◌≡◌, ◌-◌}
use Rattle.model.specs.State.{state}
use Rattle.list_row.specs.Find.{found_from}
use Rattle.list_row.proofs.find.find.Given as goal

abbrev pub invariant-loop : goal.invariant-loop
invariant-loop l = found_from (state l.head l.leaves l.inners l.homes) (l.ids.count - l.counter) l.id l.ids.second l.a l.b ≡ found_from (state l.head l.leaves l.inners l.homes) l.ids.count l.initial.id l.ids.second l.initial.a l.initial.b
