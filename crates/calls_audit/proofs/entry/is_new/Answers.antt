-- `calls_audit::entry::is_new`: the test of the slots from here on is the test of all.
use mathlib.Core.Path.{sym, ◌∙◌}
use Rattle.model.specs.State.{node_at}
use Rattle.model.specs.Audit.{is_other}
use Rattle.calls_audit.proofs.Every.{every_stop, every_on, every_end}
use Rattle.calls_audit.proofs.LeafLaws.{other_met, other_passed}
use Rattle.calls_audit.proofs.entry.is_new.Goals as goal

pub returns-then-child_of-id : goal.returns-then-child_of-id
returns-then-child_of-id c =
    let n = node_at c.args.g c.args.k.0 c.args.leaves.now in
    sym (every_stop (is_other n c.args.id.0) _ _ c.loop-j-test.true (other_met n c.args.id.0 c.loop-j.j _ c.child_of.ensures c.if-child_of-id.true)) ∙ c.loop-j.invariant

pub loop-j-preserved : goal.loop-j-preserved
loop-j-preserved c =
    let n = node_at c.args.g c.args.k.0 c.args.leaves.now in
    sym (every_on (is_other n c.args.id.0) _ _ c.loop-j-test.true (other_passed n c.args.id.0 c.loop-j.j _ c.child_of.ensures c.if-child_of-id.false)) ∙ c.loop-j.invariant

pub returns : goal.returns
returns c = sym (every_end (is_other (node_at c.args.g c.args.k.0 c.args.leaves.now) c.args.id.0) _ _ c.loop-j-test.false) ∙ c.loop-j.invariant
