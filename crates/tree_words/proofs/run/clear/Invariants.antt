-- `tree_words::run::clear`: where zeros stand, after i turns i empty slots do.
use Rattle.std.proofs.Common.{◌≡◌}
use Rattle.model.specs.Lists.{put_at}
use Rattle.model.specs.Node.{empty_slots}
use Rattle.model_laws.specs.Slots.{flat}
use Rattle.tree_words.proofs.run.clear.Given as goal

abbrev pub invariant-loop-i : goal.invariant-loop-i
invariant-loop-i l = l.ws ≡ put_at l.p (flat (empty_slots l.stride l.i)) l.initial.ws
