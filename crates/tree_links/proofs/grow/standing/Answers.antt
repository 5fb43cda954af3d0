-- `tree_links::grow::standing`: the tests are those of the definition, each before what it allows to be read.
use Rattle.tree_links.proofs.AddSteps.{no_node, no_after, no_new, no_place, too_long, stands_at}
use Rattle.tree_links.proofs.grow.standing.Goals.{then-p-used-via-then-p-used, then-p-used-via-else-p-used+then-after-g, then-p-used-via-else-p-used+else-after-g+then-new-g, then-i-len-via-then-i-len, then-i-len-via-else-i-len+then-len-g}
use Rattle.tree_links.proofs.grow.standing.Goals as goal

pub returns-then-p-used : goal.returns-then-p-used
returns-then-p-used c = elim c.then-p-used.branch [
  | then-p-used-via-then-p-used w ↦ no_node _ _ _ _ _ _ _ w.if-p-used.true
  | then-p-used-via-else-p-used+then-after-g w ↦ no_after _ _ _ _ _ _ _ w.if-p-used.false w.if-after-g.true
  | then-p-used-via-else-p-used+else-after-g+then-new-g w ↦ no_new _ _ _ _ _ _ _ w.if-p-used.false w.if-after-g.false w.if-new-g.true
]

pub returns-then-i-len : goal.returns-then-i-len
returns-then-i-len c =
    let p = c.if-p-used.false in
    let after = c.if-after-g.false in
    let new = c.if-new-g.false in
    elim c.then-i-len.branch [
      | then-i-len-via-then-i-len w ↦ no_place _ _ _ _ _ _ _ _ _ c.word_of-i.ensures c.word-len.ensures p after new w.if-i-len.true
      | then-i-len-via-else-i-len+then-len-g w ↦ too_long _ _ _ _ _ _ _ _ _ c.word_of-i.ensures c.word-len.ensures p after new w.if-i-len.false w.if-len-g.true
    ]

pub returns : goal.returns
returns c =
    stands_at _ _ _ _ _ _ _ _ _ c.word_of-i.ensures c.word-len.ensures c.if-p-used.false c.if-after-g.false c.if-new-g.false c.if-i-len.false c.if-len-g.false
