-- `tree_links::grow::add_child` and `tree_links::grow::split_node`: each goes through its definition test by test. What each has at a return is
-- a law of `Adding` or `Splitting`.
use Rattle.std.specs.Prelude.{Some, Option}
use Rattle.std.proofs.Common.{◌≡◌, ℕ, ◌*◌, ◌≤◌, List, length, get_or, refl, arith}
use Rattle.model.specs.Lists.{part}
use Rattle.model.specs.Numbered.{broken_number}
use Rattle.model.specs.State.{shape_for}
use Rattle.model.specs.Grow.{areas}
use Rattle.model.specs.declared.shape.Shape.{Shape}
use Rattle.model_laws.specs.AreaRead.{node_end}
use Rattle.model_laws.specs.Handed.{handed_nine}
use Rattle.tree_links.specs.Fits.{AreasHold}
use Rattle.tree_links.specs.Tops.{grown_in}
use Rattle.tree_links.specs.Standing.{standing}
use Rattle.tree_links.proofs.AddSteps.{GoodPlace, good_place}
use Rattle.tree_links.proofs.Adding.{PlaceFound, ReadyToLink, moved, as_made, count_as, ended, astray, ready_here, crowded, failed, ready_low, ready_high}
use Rattle.tree_links.proofs.Splitting.{three, cut_bad, cut_root, cut_up}
use Rattle.tree_links.proofs.grow.+add_child_split_node.Goals.{add_child-then-word-fan+else-used-nodes+in_ok-split_node+then-i-fan, add_child-then-word-fan+else-used-nodes+in_ok-split_node+else-i-fan, add_child-else-word-fan}
use Rattle.tree_links.proofs.grow.+add_child_split_node.Goals as goal

-- what is known once the place is found
stood : (w g : Shape) (t : List ℕ) (level p after new : ℕ) (ls xs : List ℕ) (i : ℕ) (s : Option ℕ) → g ≡ w → s ≡ Some i → s ≡ standing g (get_or t 0 0) level p after new (areas ls xs)
    → GoodPlace w (get_or t 0 0) level p after new (areas ls xs) i
stood w g t level p after new ls xs i s e is m =
    good_place w (get_or t 0 0) level p after new (areas ls xs) i (as_made e _ _ _ _ _ _ _ _ is m)

-- and once the slots in use are read
found : (w g : Shape) (left : ℕ) (t : List ℕ) (level p after new : ℕ) (ls xs : List ℕ) (i len : ℕ) (s : Option ℕ) → g ≡ w → AreasHold w (length ls) (length xs) → get_or t 0 0 ≤ w.nodes → length t ≡ 3
    → s ≡ Some i → s ≡ standing g (get_or t 0 0) level p after new (areas ls xs) → len ≡ get_or (part (p * g.size) g.size xs) 0 0
    → PlaceFound w left t level p after new ls xs i len
found w g left t level p after new ls xs i len s e f u l is m n =
    record { fits = f; used = u; three = l; slot = as_made e _ _ _ _ _ _ _ _ is m; count = count_as e _ _ _ n }

pub add_child-returns-in_default : goal.add_child-returns-in_default
add_child-returns-in_default t c =
    let a = c.args in (
      astray (shape_for a.views a.fan a.nodes) a.left a.top.now a.level a.p.0 a.after a.new a.leaves.now a.inners.now
          (as_made c.shape_for-g.ensures _ _ _ _ _ _ _ _ c.in_default.is c.standing.ensures),
      c.requires.3,
    )

pub add_child-word-requires : goal.add_child-word-requires
add_child-word-requires t c =
    let a = c.args in
    let s = stood _ _ a.top.now a.level a.p.0 a.after a.new a.leaves.now a.inners.now _ _ c.shape_for-g.ensures c.in-Some.is c.standing.ensures in
    rw c.shape_for-g.ensures
    (omega (arith, c.requires.0.shaped.words), node_end (shape_for a.views a.fan a.nodes) a.p.0 (length a.inners.now) (omega (arith, s.node, c.requires.1)) c.requires.0.inners)

pub add_child-returns-then-used-nodes : goal.add_child-returns-then-used-nodes
add_child-returns-then-used-nodes t c =
    let a = c.args in
    let f = found _ _ a.left a.top.now a.level a.p.0 a.after a.new a.leaves.now a.inners.now _ _ _ c.shape_for-g.ensures c.requires.0 c.requires.1 c.requires.3 c.in-Some.is c.standing.ensures c.word.ensures in
    (crowded f c.if-word-fan.true c.if-used-nodes.true, c.requires.3)

pub add_child-split_node-requires : goal.add_child-split_node-requires
add_child-split_node-requires t c =
    let a = c.args in
    let s = stood _ _ a.top.now a.level a.p.0 a.after a.new a.leaves.now a.inners.now _ _ c.shape_for-g.ensures c.in-Some.is c.standing.ensures in
    (omega (arith, c.decreases), (c.requires.0, s.node, c.if-used-nodes.false, c.requires.2, c.requires.3))

pub add_child-returns-in_err-split_node : goal.add_child-returns-in_err-split_node
add_child-returns-in_err-split_node t c =
    let a = c.args in
    let s = c.split_node in
    let f = found _ _ a.left a.top.now a.level a.p.0 a.after a.new a.leaves.now a.inners.now _ _ _ c.shape_for-g.ensures c.requires.0 c.requires.1 c.requires.3 c.in-Some.is c.standing.ensures c.word.ensures in
    (rw (handed_nine _ _ c.from_residual.ensures.1) (failed f c.if-word-fan.true c.if-used-nodes.false _ s.new.top _ _ c.in_err-split_node.ensures.0 (λ z. omega arith)), s.ensures.1)

pub add_child-link-requires : goal.add_child-link-requires
add_child-link-requires t c =
    let a = c.args in
    let j = c.if-word-fan in
    let f = found _ _ a.left a.top.now a.level a.p.0 a.after a.new a.leaves.now a.inners.now _ _ _ c.shape_for-g.ensures c.requires.0 c.requires.1 c.requires.3 c.in-Some.is c.standing.ensures c.word.ensures in
    let o : ReadyToLink (shape_for a.views a.fan a.nodes) a.left a.top.now a.level a.p.0 a.after a.new a.leaves.now a.inners.now j.to j.at j.top j.leaves j.inners = elim j.branch [
      | add_child-then-word-fan+else-used-nodes+in_ok-split_node+then-i-fan w ↦ (
          let s = w.split_node in
          moved w.leaves-is w.inners-is w.top-is w.to-is w.at-is
          (ready_high f w.if-word-fan.true w.if-used-nodes.false _ _ _ _ w.in_ok-split_node.ensures.0 refl s.auto.leaves s.auto.inners s.ensures.1 w.if-i-fan.true)
          )
      | add_child-then-word-fan+else-used-nodes+in_ok-split_node+else-i-fan w ↦ (
          let s = w.split_node in
          moved w.leaves-is w.inners-is w.top-is w.to-is w.at-is
          (ready_low f w.if-word-fan.true w.if-used-nodes.false _ _ _ _ w.in_ok-split_node.ensures.0 refl s.auto.leaves s.auto.inners s.ensures.1 w.if-i-fan.false)
          )
      | add_child-else-word-fan w ↦ moved w.leaves-is w.inners-is w.top-is w.to-is w.at-is (ready_here f w.if-word-fan.false)
    ] in
    rw c.shape_for-g.ensures (o.fits, o.node, o.fresh, o.room)

pub add_child-returns : goal.add_child-returns
add_child-returns t c =
    let a = c.args in
    let j = c.if-word-fan in
    let f = found _ _ a.left a.top.now a.level a.p.0 a.after a.new a.leaves.now a.inners.now _ _ _ c.shape_for-g.ensures c.requires.0 c.requires.1 c.requires.3 c.in-Some.is c.standing.ensures c.word.ensures in
    let o : ReadyToLink (shape_for a.views a.fan a.nodes) a.left a.top.now a.level a.p.0 a.after a.new a.leaves.now a.inners.now j.to j.at j.top j.leaves j.inners = elim j.branch [
      | add_child-then-word-fan+else-used-nodes+in_ok-split_node+then-i-fan w ↦ (
          let s = w.split_node in
          moved w.leaves-is w.inners-is w.top-is w.to-is w.at-is
          (ready_high f w.if-word-fan.true w.if-used-nodes.false _ _ _ _ w.in_ok-split_node.ensures.0 refl s.auto.leaves s.auto.inners s.ensures.1 w.if-i-fan.true)
          )
      | add_child-then-word-fan+else-used-nodes+in_ok-split_node+else-i-fan w ↦ (
          let s = w.split_node in
          moved w.leaves-is w.inners-is w.top-is w.to-is w.at-is
          (ready_low f w.if-word-fan.true w.if-used-nodes.false _ _ _ _ w.in_ok-split_node.ensures.0 refl s.auto.leaves s.auto.inners s.ensures.1 w.if-i-fan.false)
          )
      | add_child-else-word-fan w ↦ moved w.leaves-is w.inners-is w.top-is w.to-is w.at-is (ready_here f w.if-word-fan.false)
    ] in
    (ended c.shape_for-g.ensures o c.link.ensures, o.three)

pub split_node-returns-in_err-divided : goal.split_node-returns-in_err-divided
split_node-returns-in_err-divided t c =
    let top = c.args.top.now in
    (rw (handed_nine _ _ c.from_residual.ensures.1) (cut_bad top c.requires.4 _ _ _ _ _ _ _ _ c.in_err-divided.ensures (λ z. omega arith)), three top c.requires.4)

pub split_node-returns-then-left-eq0 : goal.split_node-returns-then-left-eq0
split_node-returns-then-left-eq0 t c =
    let root = c.grow_root in
    (cut_root c.args.top.now c.requires.4 _ _ _ _ _ _ _ _ c.in_ok-divided.ensures (grown_in (broken_number root.result) root.new.top root.new.leaves root.new.inners) refl c.if-left-eq0.true root.ensures.0, root.ensures.1)

pub split_node-word-requires : goal.split_node-word-requires
split_node-word-requires t c =
    let a = c.args in
    let pre = c.requires in
    rw c.shape_for-g.ensures
    (omega (arith, pre.0.shaped.words), rw c.divide-divided.auto.inners (node_end (shape_for a.views a.fan a.nodes) a.k.0 (length a.inners.now) (omega (arith, pre.1, pre.2)) pre.0.inners))

pub split_node-returns : goal.split_node-returns
split_node-returns t c =
    let up = c.add_child in
    (cut_up c.args.top.now c.requires.4 _ _ _ _ _ _ _ _ c.in_ok-divided.ensures (grown_in (broken_number up.result) up.new.top up.new.leaves up.new.inners) refl _ _ c.if-left-eq0.false c.shape_for-g.ensures c.word.ensures up.ensures.0, up.ensures.1)
