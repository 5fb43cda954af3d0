-- `tree_finger::finger::back`: back from here is back from the finger's slot; each turn goes one slot back.
use Rattle.std.proofs.Common.{sym, refl, ◌∙◌, arith}
use Rattle.model.specs.State.{node_at}
use Rattle.model_laws.specs.Locate.{back_first, back_here, back_turn}
use Rattle.tree_finger.proofs.finger.back.Goals as goal

pub returns-then-stand-index : goal.returns-then-stand-index
returns-then-stand-index c =
    rw c.loop-slot.invariant.0 (sym (back_here _ _ _ _ _ _ _ _ c.if-stand-index.true) ∙ c.loop-slot.invariant.1)

pub loop-slot-preserved : goal.loop-slot-preserved
loop-slot-preserved c = (
  refl,
  sym (back_turn _ _ (node_at c.args.g c.args.f.leaf c.args.leaves.now) _ _ _ _ _ _ _ _ _ _ _ c.loop-slot-test.true
      (omega (arith, c.requires.5)) c.if-stand-index.false c.length_of-length.ensures c.length_of-effect_length.ensures c.length_of-prepare_length.ensures refl refl refl)
      ∙ c.loop-slot.invariant.1,
)

pub returns : goal.returns
returns c =
    rw c.loop-slot.invariant.0 (sym (back_first _ _ _ _ _ _ _ _ c.loop-slot-test.false) ∙ c.loop-slot.invariant.1)
