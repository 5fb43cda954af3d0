-- Each turn writes one word that was as before, so that the count grows by that word alone.
use Rattle.std.proofs.Common.{◌+◌, ◌≤◌, ◌∙◌, arith, slice_index_or}
use Rattle.tree_words.proofs.TallyLaws.{none_done, one_done, all_done, as_apart, apart_small}
use Rattle.tree_words.proofs.write.put.Goals as goal

pub loop-i-init : goal.loop-i-init
loop-i-init c = (none_done _ _ _, omega arith)

pub loop-i-preserved : goal.loop-i-preserved
loop-i-preserved c =
    let e = c.from-count.ensures ∙ as_apart _ _ in
    let s : c.from-count.result ≤ 1 = omega (arith, e, apart_small (slice_index_or c.loop-i.ws (c.args.p + c.loop-i.i) 0) (slice_index_or c.args.src.now c.loop-i.i 0)) in
    (one_done _ _ _ _ _ _ _ c.requires c.loop-i-test.true c.loop-i.invariant.0 e, omega (arith, s, c.loop-i.invariant.1))

pub returns : goal.returns
returns c = (all_done _ _ _ _ _ _ c.loop-i-test.false c.loop-i.invariant.0, omega (arith, c.loop-i.invariant.1))
