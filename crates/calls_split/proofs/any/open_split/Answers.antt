-- `calls_split::any::open_split`: too many line ends are tested first, then the tree and its cursor, then what is taken, then whether a part is
-- hollow, then whether one has crossed bounds, then the want of space.
use Rattle.std.proofs.Common.{refl, ap, ◌∙◌}
use Rattle.std.proofs.lemmas.Result.{err_from_is_err_and}
use Rattle.model.specs.Numbered.{number_of}
use Rattle.model.specs.Kind.{kind, kind_of}
use Rattle.model.specs.Length.{lengths_in}
use Rattle.tree_open.proofs.CursorLaws.{cursor_ready, slot_in_law, at_ordered}
use Rattle.calls_split.proofs.SplitLaws.{split_many, split_refused, split_much, split_hollow, split_crossed, split_full_law, split_good}
use Rattle.calls_split.proofs.any.open_split.Goals as goal

pub returns-then-too_many_lines : goal.returns-then-too_many_lines
returns-then-too_many_lines c =
    let views = c.args.views in
    λ effect causes room. split_many (kind_of views effect c.args.ordered) causes _ c.args.at (lengths_in views c.args.x.now) _ (c.too_many_lines.ensures effect) c.if-too_many_lines.true

pub returns-in_err-g : goal.returns-in_err-g
returns-in_err-g c =
    let lines = c.too_many_lines in
    let few = c.if-too_many_lines.false in
    let p = err_from_is_err_and c.from_residual.result c.from_residual.ensures.1 in
    λ effect causes room. rw (p.1, p.2)
    (split_refused (kind_of c.args.views effect c.args.ordered) causes _ c.args.at c.args.x.now _ (lines.ensures effect) few _ (at_ordered c.args.views effect c.args.ordered _ _ c.args.at (c.in_err-g.ensures effect)))

pub lengths_at-requires : goal.lengths_at-requires
lengths_at-requires c =
    let h = cursor_ready (kind c.args.views 0) (c.requires.0, c.requires.1) _ c.args.at _ _ (c.in_ok-g.ensures 0) refl in
    let i = slot_in_law _ c.args.at _ h in (i.0, i.1, i.2, refl)

pub too_much-requires : goal.too_much-requires
too_much-requires c =
    let h = cursor_ready (kind c.args.views 0) (c.requires.0, c.requires.1) _ c.args.at _ _ (c.in_ok-g.ensures 0) refl in
    (h.ready.shaped, c.requires.2, c.lengths_at.ensures.1)

pub returns-then-too_much : goal.returns-then-too_much
returns-then-too_much c =
    let lines = c.too_many_lines in
    let few = c.if-too_many_lines.false in
    λ effect causes room. split_much (kind_of c.args.views effect c.args.ordered) causes _ c.args.at c.args.x.now _ (lines.ensures effect) few _ (at_ordered c.args.views effect c.args.ordered _ _ c.args.at (c.in_ok-g.ensures effect)) c.lengths_at.new.x c.lengths_at.ensures.0 _ c.too_much.ensures c.if-too_much.true

pub hollow_part-requires : goal.hollow_part-requires
hollow_part-requires c =
    let h = cursor_ready (kind c.args.views 0) (c.requires.0, c.requires.1) _ c.args.at _ _ (c.in_ok-g.ensures 0) refl in
    (h.ready.shaped, c.requires.2, c.lengths_at.ensures.1)

pub returns-then-hollow_part : goal.returns-then-hollow_part
returns-then-hollow_part c =
    let lines = c.too_many_lines in
    let few = c.if-too_many_lines.false in
    λ effect causes room. split_hollow (kind_of c.args.views effect c.args.ordered) causes _ c.args.at c.args.x.now _ (lines.ensures effect) few _ (at_ordered c.args.views effect c.args.ordered _ _ c.args.at (c.in_ok-g.ensures effect)) c.lengths_at.new.x c.lengths_at.ensures.0 _ c.too_much.ensures c.if-too_much.false _ c.hollow_part.ensures c.if-hollow_part.true

pub returns-then-crossed_part : goal.returns-then-crossed_part
returns-then-crossed_part c =
    let lines = c.too_many_lines in
    let few = c.if-too_many_lines.false in
    λ effect causes room. split_crossed (kind_of c.args.views effect c.args.ordered) causes _ c.args.at c.args.x.now _ (lines.ensures effect) few _ (at_ordered c.args.views effect c.args.ordered _ _ c.args.at (c.in_ok-g.ensures effect)) c.lengths_at.new.x c.lengths_at.ensures.0 _ c.too_much.ensures c.if-too_much.false _ c.hollow_part.ensures c.if-hollow_part.false _ c.crossed_part.ensures c.if-crossed_part.true

pub returns-in_err-room : goal.returns-in_err-room
returns-in_err-room c =
    let lines = c.too_many_lines in
    let few = c.if-too_many_lines.false in
    let y = c.lengths_at in
    let p = err_from_is_err_and c.from_residual-in_err-room.result c.from_residual-in_err-room.ensures.1 in
    λ effect causes room. rw (p.1, p.2)
    (split_full_law (kind_of c.args.views effect c.args.ordered) causes _ c.args.at c.args.x.now _ (lines.ensures effect) few _ (at_ordered c.args.views effect c.args.ordered _ _ c.args.at (c.in_ok-g.ensures effect)) y.new.x y.ensures.0 _
    c.too_much.ensures c.if-too_much.false _ c.hollow_part.ensures c.if-hollow_part.false _ c.crossed_part.ensures c.if-crossed_part.false _ (room ∙ ap number_of c.in_err-room.was))

pub returns : goal.returns
returns c =
    let lines = c.too_many_lines in
    let few = c.if-too_many_lines.false in
    let y = c.lengths_at in
    λ effect causes room. split_good (kind_of c.args.views effect c.args.ordered) causes _ c.args.at c.args.x.now _ (lines.ensures effect) few _ (at_ordered c.args.views effect c.args.ordered _ _ c.args.at (c.in_ok-g.ensures effect)) y.new.x y.ensures.0 _
    c.too_much.ensures c.if-too_much.false _ c.hollow_part.ensures c.if-hollow_part.false _ c.crossed_part.ensures c.if-crossed_part.false (room ∙ ap number_of c.in_ok-room.was)
