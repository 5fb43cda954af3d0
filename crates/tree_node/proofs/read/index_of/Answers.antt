-- `tree_node::read::index_of`: where the child stands from slot k on is where it stands, and each turn reads one slot.
use Rattle.std.proofs.Common.{◌≡◌, sym, refl, ap, ◌∙◌, arith}
use lib.ListN.{get_or}
use Rattle.model.specs.Node.{scan}
use Rattle.model_laws.specs.Nodes.{used_slots}
use Rattle.model_laws.specs.Read.{index_here, index_on, index_none}
use Rattle.tree_node.proofs.read.index_of.Goals as goal

pub returns-then-here-child : goal.returns-then-here-child
returns-then-here-child c =
    let l = c.loop-k in
    rw (l.invariant.0, used_slots _ _ _ c.requires.2) (ap (scan _) (sym (index_here _ _ _ _ _ _ _ (omega (arith, c.requires.0)) refl c.loop-k-test.true c.if-here-child.true) ∙ l.invariant.1))

pub loop-k-preserved : goal.loop-k-preserved
loop-k-preserved c =
    let l = c.loop-k in
    (omega (arith, l.invariant.0), sym (index_on _ _ _ _ _ _ _ (omega (arith, c.requires.0)) refl c.loop-k-test.true c.if-here-child.false) ∙ l.invariant.1)

pub returns : goal.returns
returns c =
    let l = c.loop-k in
    let all : l.read ≡ get_or c.args.node.now 0 0 = omega (arith, l.invariant.0) in
    rw (all, used_slots _ _ _ c.requires.2) (ap (scan _) (sym (index_none _ _ _ _ _ _ c.loop-k-test.false) ∙ l.invariant.1))
