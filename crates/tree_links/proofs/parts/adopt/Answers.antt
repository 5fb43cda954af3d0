-- `tree_links::parts::adopt`: the node of the area that the level names has the two words written, and the other area lends nothing.
use Rattle.model_laws.specs.Grow.{adopt_leaf, adopt_inner}
use Rattle.tree_links.proofs.parts.adopt.Goals as goal

pub returns-then-level-eq1 : goal.returns-then-level-eq1
returns-then-level-eq1 c =
    let adopt-part = c.adopt_part in
    let pre = c.requires in
    let if1 = c.if-level-eq1 in
    rw adopt-part.ensures.1 (adopt_leaf _ _ _ _ _ _ _ _ pre.0.shaped.words pre.1 if1.true pre.0.leaves adopt-part.auto.leaf adopt-part.ensures.0)

pub returns-else-level-eq1 : goal.returns-else-level-eq1
returns-else-level-eq1 c =
    let adopt-part2 = c.adopt_part-else-level-eq1 in
    let pre = c.requires in
    let if1 = c.if-level-eq1 in
    rw adopt-part2.ensures.0 (adopt_inner _ _ _ _ _ _ _ _ pre.0.shaped.words pre.1 if1.false pre.0.inners adopt-part2.auto.inner adopt-part2.ensures.1)
