-- `tree_node::read::find`: what is still to be found from slot k on is what was to be found, and each turn passes one slot.
use Rattle.std.proofs.Common.{sym, refl, ◌∙◌, arith}
use Rattle.model_laws.specs.Nodes.{used_slots}
use Rattle.model_laws.specs.Read.{find_here, find_on, find_none}
use Rattle.tree_node.proofs.read.find.Goals as goal

pub returns-then-rest-here : goal.returns-then-rest-here
returns-then-rest-here c =
    rw (used_slots _ _ _ c.requires.4) (sym (find_here _ _ _ _ _ _ _ _ _ _ _ c.requires.2 c.requires.3 refl c.loop-k-test.true c.if-rest-here.true) ∙ c.loop-k.invariant.2)

pub loop-k-preserved : goal.loop-k-preserved
loop-k-preserved c = (
  omega arith,
  omega arith,
  rw (c.from-before.ensures, c.from-prior.ensures) (sym (find_on _ _ _ _ _ _ _ _ _ _ _ c.requires.2 c.requires.3 refl c.loop-k-test.true c.if-rest-here.false)) ∙ c.loop-k.invariant.2,
)

pub returns : goal.returns
returns c = rw (used_slots _ _ _ c.requires.4) (sym (find_none _ _ _ _ _ _ _ _ _ _ c.loop-k-test.false) ∙ c.loop-k.invariant.2)
