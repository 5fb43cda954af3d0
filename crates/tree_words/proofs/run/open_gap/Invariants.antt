-- `tree_words::run::open_gap`: after a turn four words more have moved; at last up to s words below p may be among them, and over those the caller's come.
use Rattle.std.proofs.Common.{◌≡◌, ◌+◌, ◌-◌, ◌*◌}
use Rattle.model.specs.Lists.{part, put_at}
use Rattle.tree_words.proofs.run.open_gap.Given as goal

abbrev pub invariant-loop-turn : goal.invariant-loop-turn
invariant-loop-turn l = l.ws ≡ put_at (l.q - 4 * l.turn + l.s) (part (l.q - 4 * l.turn) (l.q - (l.q - 4 * l.turn)) l.initial.ws) l.initial.ws
