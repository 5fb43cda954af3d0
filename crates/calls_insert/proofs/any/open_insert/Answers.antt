-- `calls_insert::any::open_insert`: each test is the next cause, in the order of the definition.
use mathlib.Core.Path.{refl, ap, ◌∙◌}
use Rattle.std.proofs.lemmas.Result.{err_from_is_err_and}
use Rattle.model.specs.Numbered.{number_of}
use Rattle.model.specs.Kind.{kind, kind_of}
use Rattle.model.specs.Length.{lengths_in}
use Rattle.model.specs.State.{State, state}
use Rattle.tree_open.proofs.WidthLaws.{root_in}
use Rattle.calls_insert.proofs.TargetLaws.{front_ready, front_ordered, insert_many, insert_stop, insert_crossed, insert_past, insert_full, insert_good}
use Rattle.calls_insert.proofs.any.open_insert.Goals.{Start}
use Rattle.calls_insert.proofs.any.open_insert.Goals as goal

-- the tree as it was lent
abbrev entry : Start → State
entry a = state a.args.head a.args.leaves.now a.args.inners.now a.args.homes.now

pub returns-then-too_many_lines : goal.returns-then-too_many_lines
returns-then-too_many_lines c =
    let l = lengths_in c.args.views c.args.x.now in
    λ effect causes room. insert_many (kind_of c.args.views effect c.args.ordered) (c.requires.0, c.requires.1) (entry (goal.at.returns-then-too_many_lines c).Start) causes c.args.before l _ (c.too_many_lines.ensures effect) c.if-too_many_lines.true

pub returns-in_err-g : goal.returns-in_err-g
returns-in_err-g c =
    let m = c.too_many_lines in
    let few = c.if-too_many_lines.false in
    let l = lengths_in c.args.views c.args.x.now in
    let p = err_from_is_err_and c.from_residual.result c.from_residual.ensures.1 in
    λ effect causes room. rw (p.1, p.2)
    (insert_stop (kind_of c.args.views effect c.args.ordered) (c.requires.0, c.requires.1) (entry (goal.at.returns-in_err-g c).Start) causes c.args.before l _ (m.ensures effect) few _ (front_ordered c.args.views effect c.args.ordered (entry (goal.at.returns-in_err-g c).Start) c.args.before _ (c.in_err-g.ensures effect)))

pub returns-then-crossed : goal.returns-then-crossed
returns-then-crossed c =
    let m = c.too_many_lines in
    let few = c.if-too_many_lines.false in
    let l = lengths_in c.args.views c.args.x.now in
    λ effect causes room. insert_crossed (kind_of c.args.views effect c.args.ordered) (c.requires.0, c.requires.1) (entry (goal.at.returns-then-crossed c).Start) causes c.args.before l _ (m.ensures effect) few _ (front_ordered c.args.views effect c.args.ordered (entry (goal.at.returns-then-crossed c).Start) c.args.before _ (c.in_ok-g.ensures effect)) _ c.crossed.ensures c.if-crossed.true

pub past-requires : goal.past-requires
past-requires c =
    let h = front_ready (kind c.args.views 0) (c.requires.0, c.requires.1) (entry (goal.at.past-requires c).Start) c.args.before _ (c.in_ok-g.ensures 0) in
    let i = root_in (entry (goal.at.past-requires c).Start) _ h in
    (i.0, i.1, refl, c.requires.2)

pub returns-then-past : goal.returns-then-past
returns-then-past c =
    let m = c.too_many_lines in
    let few = c.if-too_many_lines.false in
    let l = lengths_in c.args.views c.args.x.now in
    λ effect causes room. insert_past (kind_of c.args.views effect c.args.ordered) (c.requires.0, c.requires.1) (entry (goal.at.returns-then-past c).Start) causes c.args.before l _ (m.ensures effect) few _ (front_ordered c.args.views effect c.args.ordered (entry (goal.at.returns-then-past c).Start) c.args.before _ (c.in_ok-g.ensures effect)) _ c.crossed.ensures c.if-crossed.false _ c.past.ensures c.if-past.true

pub returns-in_err-room : goal.returns-in_err-room
returns-in_err-room c =
    let m = c.too_many_lines in
    let few = c.if-too_many_lines.false in
    let l = lengths_in c.args.views c.args.x.now in
    let p = err_from_is_err_and c.from_residual-in_err-room.result c.from_residual-in_err-room.ensures.1 in
    λ effect causes room. rw (p.1, p.2)
    (insert_full (kind_of c.args.views effect c.args.ordered) (c.requires.0, c.requires.1) (entry (goal.at.returns-in_err-room c).Start) causes c.args.before l _ (m.ensures effect) few _ (front_ordered c.args.views effect c.args.ordered (entry (goal.at.returns-in_err-room c).Start) c.args.before _ (c.in_ok-g.ensures effect)) _ c.crossed.ensures c.if-crossed.false _ c.past.ensures c.if-past.false _ (room ∙ ap number_of c.in_err-room.was))

pub returns : goal.returns
returns c =
    let m = c.too_many_lines in
    let few = c.if-too_many_lines.false in
    let l = lengths_in c.args.views c.args.x.now in
    λ effect causes room. insert_good (kind_of c.args.views effect c.args.ordered) (c.requires.0, c.requires.1) (entry (goal.at.returns c).Start) causes c.args.before l _ (m.ensures effect) few _ (front_ordered c.args.views effect c.args.ordered (entry (goal.at.returns c).Start) c.args.before _ (c.in_ok-g.ensures effect)) _ c.crossed.ensures c.if-crossed.false _ c.past.ensures c.if-past.false (room ∙ ap number_of c.in_ok-room.was)
