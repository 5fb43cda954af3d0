-- `tree_place::size::asked_way`: summed it is the way up, and without the sum the walk leaves what that leaves.
use Rattle.std.proofs.Common.{◌≡◌, ℕ, Bool, List, take, subst, ap}
use Rattle.model.specs.Node.{start}
use Rattle.model.specs.State.{shape_for, node_at}
use Rattle.model.specs.declared.shape.Shape.{Shape}
use Rattle.tree_walk.specs.Raise.{raise_up}
use Rattle.tree_node.proofs.WriteLaws.{three_words}
use Rattle.tree_place.proofs.SizeLaws.{lost_way, whole_way}
use Rattle.tree_place.proofs.size.asked_way.Goals.{Start}
use Rattle.tree_place.proofs.size.asked_way.Goals as goal

-- the sizes, and the walk by such words
abbrev shaped : Start → Shape
shaped s = shape_for s.args.views s.args.fan s.args.nodes

abbrev raised : Start → List ℕ → Bool × List ℕ
raised s ds =
    let m = node_at (shaped s) s.args.k.0 s.args.leaves.now in
    raise_up (shaped s) (take s.args.views ds) s.args.levels m.parent m.at s.args.inners.now

pub returns-then-not-way_raise : goal.returns-then-not-way_raise
returns-then-not-way_raise c =
    let m = node_at (shaped (goal.at.returns-then-not-way_raise c).Start) c.args.k.0 c.args.leaves.now in
    lost_way _ _ c.if-summed.false _ (shaped (goal.at.returns-then-not-way_raise c).Start) c.args.effect (take c.args.views c.args.delta.now) c.args.levels m.parent m.at (start c.args.effect c.args.i m) c.args.inners.now
    (subst (λ (ds : List ℕ). (c.way_raise.result, c.way_raise.new.inners) ≡ raised (goal.at.returns-then-not-way_raise c).Start ds) (three_words c.args.delta.now c.requires.6) c.way_raise.ensures) c.if-not-way_raise.true

pub returns : goal.returns
returns c =
    let m = node_at (shaped (goal.at.returns c).Start) c.args.k.0 c.args.leaves.now in
    whole_way _ _ c.if-summed.false _ (shaped (goal.at.returns c).Start) c.args.effect (take c.args.views c.args.delta.now) c.args.levels m.parent m.at (start c.args.effect c.args.i m) c.args.inners.now
    (subst (λ (ds : List ℕ). (c.way_raise.result, c.way_raise.new.inners) ≡ raised (goal.at.returns c).Start ds) (three_words c.args.delta.now c.requires.6) c.way_raise.ensures) c.if-not-way_raise.false
