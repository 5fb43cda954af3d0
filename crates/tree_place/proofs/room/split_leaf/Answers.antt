-- `tree_place::room::split_leaf`: the halves are written and the homes follow; then the new leaf gets its slot above.
use Rattle.std.proofs.Common.{refl, ap, arith}
use Rattle.model.specs.State.{shape_for}
use Rattle.model.specs.declared.shape.Shape.{Shape}
use Rattle.model.specs.declared.head.Head.{Head}
use Rattle.model_laws.specs.AreaRead.{node_end}
use Rattle.model_laws.specs.Handed.{handed_nine}
use Rattle.tree_links.specs.Tops.{top_in}
use Rattle.tree_place.specs.Room.{counted, settled_in}
use Rattle.tree_place.proofs.RoomLaws.{Halves, halves, few, split_none, split_lost, split_done}
use Rattle.tree_place.proofs.room.split_leaf.Goals.{After-split_off, Start}
use Rattle.tree_place.proofs.room.split_leaf.Goals as goal

-- the sizes, and a head with the counts at entry
abbrev shaped : Start → Shape
shaped s = shape_for s.args.views s.args.fan s.args.nodes

abbrev before : Start → Head → Head
before s h = counted s.args.used (top_in s.args.top.now) s.args.entries h

-- both halves as they are written
parts : (c : After-split_off) → Halves (shape_for c.args.views c.args.fan c.args.nodes) c.args.k.0 c.args.used c.args.leaves.now c.split_off.new.area
parts c =
    halves (shape_for c.args.views c.args.fan c.args.nodes) c.args.k.0 c.args.used c.args.leaves.now c.split_off.new.area c.requires.0.shaped.words (omega (arith, c.requires.0.shaped.columns)) c.requires.1
    (node_end (shape_for c.args.views c.args.fan c.args.nodes) c.args.used _ c.if-nodes-used.false c.requires.0.leaves) c.split_off.ensures

pub returns-then-nodes-used : goal.returns-then-nodes-used
returns-then-nodes-used c =
    ((λ h i. ap (settled_in h) (split_none (shaped (goal.at.returns-then-nodes-used c).Start) c.args.k.0 i (before (goal.at.returns-then-nodes-used c).Start h) c.args.leaves.now c.args.inners.now c.args.homes.now c.if-nodes-used.true)), c.requires.6)

pub rehome-requires : goal.rehome-requires
rehome-requires c =
    let pre = c.requires in
    let shape-for = c.shape_for-g in
    let if1 = c.if-nodes-used in
    let z = parts (goal.at.rehome-requires c).After-split_off in
    rw shape-for.ensures (record { shaped = pre.0.shaped; room = rw z.long pre.0.leaves }, if1.false, few z, pre.5)

pub returns-in_err-rehome : goal.returns-in_err-rehome
returns-in_err-rehome c =
    let s = (goal.at.returns-in_err-rehome c).Start in
    let halved = parts (goal.at.returns-in_err-rehome c).After-split_off in (
      (λ h i. rw (handed_nine _ _ c.from_residual.ensures.1) (ap (settled_in h) (split_lost (shaped s) c.args.k.0 i (before s h) c.args.leaves.now c.args.inners.now c.args.homes.now _ _ _ halved c.if-nodes-used.false
          (rw c.shape_for-g.ensures at c.in_err-rehome.ensures) (λ z. omega arith)))),
      c.requires.6,
    )

pub returns : goal.returns
returns c =
    let shape-for = c.shape_for-g in
    let add-child = c.add_child in
    let s = (goal.at.returns c).Start in
    let halved = parts (goal.at.returns c).After-split_off in (
      (λ h i. ap (settled_in h) (split_done (shaped s) c.args.k.0 i (before s h) c.args.leaves.now c.args.inners.now c.args.homes.now _ _ _ halved c.if-nodes-used.false
          (rw shape-for.ensures at c.in_ok-rehome.ensures) _ refl (rw (c.parent_of.ensures, shape-for.ensures) at add-child.ensures.0))),
      add-child.ensures.1,
    )
