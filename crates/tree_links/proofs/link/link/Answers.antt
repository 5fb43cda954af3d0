-- `tree_links::link::link`: the slot is summed up from the new node, put in, and every child from it on learns its place.
use mathlib.Core.Path.{refl}
use native.Mathlib.Omega.{arith}
use Rattle.model.specs.Node.{node_of}
use Rattle.model_laws.specs.Grow.{link_as}
use Rattle.tree_links.proofs.link.link.Goals as goal

pub adopt_all-requires : goal.adopt_all-requires
unfolding node_of
adopt_all-requires c =
    let split-child = c.split_child in
    let pre = c.requires in
    let word = c.word-len in
    (rw split-child.auto.area pre.0, pre.1, omega (arith, word.ensures, pre.3.space))

pub returns : goal.returns
returns c =
    let word = c.word-len in
    let slot_of_law = c.slot_of in
    let split-child = c.split_child in
    let adopt_all_law = c.adopt_all in
    link_as _ _ _ _ _ _ _ _ _ _ _ _ word.ensures slot_of_law.ensures.0 refl split-child.ensures adopt_all_law.ensures
