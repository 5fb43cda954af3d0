-- `tree_words::run::clear`: where zeros stand, after i turns i empty slots do.
use Rattle.std.proofs.Common.{◌≡◌, ◌∙◌, arith}
use Rattle.model_laws.specs.Slots.{flat_none}
use Rattle.model_laws.specs.Words.{put_none}
use Rattle.tree_words.proofs.Turns.{child_turn, clear_all}
use Rattle.tree_words.proofs.run.clear.Goals as goal

pub loop-i-init : goal.loop-i-init
loop-i-init c = rw (flat_none, put_none)

pub loop-i-preserved : goal.loop-i-preserved
loop-i-preserved c =
    let a = c.args in
    child_turn a.stride a.p a.n _ a.ws.now c.requires.0 c.zero.ensures c.requires.1 c.loop-i.i _ c.loop-i-test.true c.loop-i.auto.ws c.loop-i.invariant

pub returns : goal.returns
returns c =
    let a = c.args in
    let e : c.loop-i.i ≡ a.n = omega arith in
    rw e at c.loop-i.invariant ∙ clear_all a.stride a.p a.n _ a.ws.now c.requires.0 c.zero.ensures c.requires.1
