-- `tree_words::run::zero`: after each turn one zero more is written.
use Rattle.std.proofs.Common.{◌≡◌, ◌-◌, arith}
use Rattle.model_laws.specs.Words.{put_none}
use Rattle.tree_words.proofs.Turns.{fill_turn}
use Rattle.tree_words.proofs.run.zero.Goals as goal

pub loop-w-init : goal.loop-w-init
loop-w-init c =
    let e : c.args.p - c.args.p ≡ 0 = omega arith in
    rw (e, put_none)

pub loop-w-preserved : goal.loop-w-preserved
loop-w-preserved c = fill_turn _ _ _ _ _ (omega arith) (omega arith) c.loop-w.invariant

pub returns : goal.returns
returns c =
    let e : c.loop-w.w ≡ c.args.q = omega arith in
    rw e at c.loop-w.invariant
