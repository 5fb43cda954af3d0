-- `tree_words::run::zero`: after each turn one zero more is written.
use Rattle.std.proofs.Common.{◌≡◌, ◌-◌, replicate}
use Rattle.model.specs.Lists.{put_at}
use Rattle.tree_words.proofs.run.zero.Given as goal

abbrev pub invariant-loop-w : goal.invariant-loop-w
invariant-loop-w l = l.ws ≡ put_at l.p (replicate (l.w - l.p) 0) l.initial.ws
