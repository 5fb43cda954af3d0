-- `tree_area::word::find_in`: the part that is lent holds the node's words, and no more than a word is added for a slot.
use Rattle.std.proofs.Common.{◌≤◌, get_or, arith}
use Rattle.model.specs.Node.{node_of}
use Rattle.model_laws.specs.Find.{used_before}
use Rattle.tree_area.proofs.word.find_in.Goals as goal

pub find-requires : goal.find-requires
unfolding node_of
find-requires c =
    let e = c.node_words-node.ensures.0 in
    let within : c.args.from ≤ get_or c.node_words-node.result.now 0 0 = rw e c.requires.5 in
    (c.requires.0.shaped, c.node_words-node.ensures.1, c.requires.2, c.requires.3, rw e c.requires.4, omega arith, c.requires.6, c.requires.7)

pub returns : goal.returns
returns c =
    let e = rw c.node_words-node.ensures.0 at c.find.ensures in
    record {
      finds = e;
      few = λ j o t u q.
          (let z = used_before c.args.g _ c.args.effect c.args.k c.args.from _ c.args.effects c.args.prepares c.args.area.now c.requires.4 c.requires.3 (λ i. omega (arith, c.type_inv.area i)) j o t u (rw e at q) in
          (omega (arith, c.requires.0.shaped, z.0), omega (arith, c.requires.0.shaped, z.1)));
    }
