-- `tree_place::home::rehome`: each turn gives one more of the leaf's entries its home.
use Rattle.std.proofs.Common.{◌≡◌, drop}
use Rattle.model.specs.Node.{used}
use Rattle.model.specs.State.{node_at}
use Rattle.model.specs.Place.{rehome}
use Rattle.tree_place.proofs.home.rehome.Given as goal

abbrev pub invariant-loop-i : goal.invariant-loop-i
invariant-loop-i l = rehome l.entries l.k.0 (drop l.i (used (node_at l.g l.k.0 l.leaves))) l.homes ≡ rehome l.entries l.k.0 (used (node_at l.g l.k.0 l.leaves)) l.initial.homes
