-- `tree_finger::finger::back`: back from here is back from the finger's slot; each turn goes one slot back.
use Rattle.std.proofs.Common.{◌≡◌}
use Rattle.model.specs.Node.{used}
use Rattle.model.specs.State.{node_at}
use Rattle.model.specs.Locate.{back}
use Rattle.tree_finger.proofs.finger.back.Given as goal

abbrev pub invariant-loop-slot : goal.invariant-loop-slot
invariant-loop-slot l = (l.stand.slot ≡ l.slot) × (back l.view l.effect (used (node_at l.g l.f.leaf l.leaves)) l.index l.slot l.stand.within l.stand.effect_within l.stand.prepare_within ≡ back l.view l.effect (used (node_at l.g l.f.leaf l.leaves)) l.index l.f.slot l.f.within l.f.effect_within l.f.prepare_within)
