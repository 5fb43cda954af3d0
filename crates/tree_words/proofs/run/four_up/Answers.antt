-- `tree_words::run::four_up`: the four words are read before any is written, so that those written over may be among them.
use Rattle.std.proofs.Common.{List, ℕ, ◌+◌, ◌∙◌, ap, arith}
use Rattle.model.specs.Lists.{put_at}
use Rattle.tree_words.proofs.Turns.{part_four, put_four}
use Rattle.tree_words.proofs.run.four_up.Goals as goal

pub returns : goal.returns
returns c =
    put_four (c.args.w + c.args.s) _ _ _ _ c.args.ws.now (omega arith)
    ∙ ap (λ (z : List ℕ). put_at (c.args.w + c.args.s) z c.args.ws.now) (part_four _ _ (omega arith))
