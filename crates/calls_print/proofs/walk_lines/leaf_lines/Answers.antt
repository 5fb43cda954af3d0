-- `calls_print::walk_lines::leaf_lines`: each turn writes the line of the first slot that is left.
use Rattle.std.proofs.Common.{refl, ◌∙◌, arith}
use Rattle.model.specs.State.{node_at}
use Rattle.model_laws.specs.AreaRead.{slots_are}
use Rattle.calls_print.proofs.LaidLaws.{one_slot, no_slot}
use Rattle.calls_print.proofs.walk_lines.leaf_lines.Goals as goal

pub loop-i-preserved : goal.loop-i-preserved
loop-i-preserved c =
    let the-loop = c.loop-i in
    let args = c.args in
    let pre = c.requires in (
      omega (arith, the-loop.invariant.0),
      c.line.auto.page ∙ the-loop.invariant.1,
      one_slot args.view args.n the-loop.i _ _ _ _ _ _ _ _ (node_at args.g args.k.0 args.leaves.now).slots _ _ _ (omega arith) (omega (arith, slots_are args.g args.k.0 args.leaves.now, pre.3))
          c.child_of-id.ensures c.length_of-prepare.ensures c.length_of-effect.ensures c.line.ensures refl refl the-loop.invariant.2,
    )

pub returns : goal.returns
returns c =
    let args = c.args in
    no_slot args.view args.n c.loop-i.i (node_at args.g args.k.0 args.leaves.now).slots _ _ (omega arith) (omega (arith, slots_are args.g args.k.0 args.leaves.now, c.requires.3)) c.loop-i.invariant.2
