-- `tree_links::parts::adopt_all`: what is left to do from place i on, of the areas as they are, is what there was to do at the start.
use Prim.Native.Nat.{◌-◌}
use mathlib.Core.Path.{◌≡◌}
use lib.ListN.{length}
use Rattle.model.specs.Grow.{areas, adopt_all}
use Rattle.tree_links.proofs.parts.adopt_all.Given as goal

abbrev pub invariant-loop-i : goal.invariant-loop-i
invariant-loop-i l = (length l.leaves ≡ length l.initial.leaves) × (length l.inners ≡ length l.initial.inners)
    × (adopt_all l.g l.level l.p.0 (l.to - l.i) l.i (areas l.leaves l.inners) ≡ adopt_all l.g l.level l.p.0 (l.to - l.from) l.from (areas l.initial.leaves l.initial.inners))
