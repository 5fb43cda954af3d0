-- `calls_size::any::open_resize`: too many line ends are tested first, then the tree and its cursor, the order of the new lengths, and the totals with them for those that the entry has.
use Rattle.std.proofs.Common.{refl, ap, ◌∙◌}
use Rattle.model.specs.Kind.{kind, kind_of}
use Rattle.model.specs.Length.{lengths_in}
use Rattle.model_laws.specs.Handed.{handed}
use Rattle.tree_open.proofs.CursorLaws.{cursor_ready, slot_in_law, at_ordered}
use Rattle.tree_open.proofs.WidthLaws.{root_in}
use Rattle.calls_size.proofs.SizeLaws.{refused_by, resize_many, resize_refused, resize_crossed, resize_past, resize_good}
use Rattle.calls_size.proofs.any.open_resize.Goals as goal

pub returns-then-too_many_lines : goal.returns-then-too_many_lines
returns-then-too_many_lines c =
    let views = c.args.views in
    λ effect. let p = resize_many (kind_of views effect c.args.ordered) _ c.args.at (lengths_in views c.args.new.now) _ (c.too_many_lines.ensures effect) c.if-too_many_lines.true (lengths_in views c.args.old.now) in
    (p.0, p.1, c.requires.2)

pub returns-in_err-g : goal.returns-in_err-g
returns-in_err-g c =
    let views = c.args.views in
    let l = lengths_in views c.args.new.now in
    λ effect. let p = resize_refused (kind_of views effect c.args.ordered) _ c.args.at l _ (c.too_many_lines.ensures effect) c.if-too_many_lines.false _ (at_ordered views effect c.args.ordered _ _ c.args.at (c.in_err-g.ensures effect)) _ refl (lengths_in views c.args.old.now) in
    let h = handed _ _ c.from_residual.ensures.1 in (h ∙ p.0, refused_by _ _ h _ _, c.requires.2)

pub returns-then-crossed : goal.returns-then-crossed
returns-then-crossed c =
    let views = c.args.views in
    let l = lengths_in views c.args.new.now in
    λ effect. let p = resize_crossed (kind_of views effect c.args.ordered) _ c.args.at l _ (c.too_many_lines.ensures effect) c.if-too_many_lines.false _ (at_ordered views effect c.args.ordered _ _ c.args.at (c.in_ok-g.ensures effect)) _ refl _ c.crossed.ensures c.if-crossed.true (lengths_in views c.args.old.now) in
    (p.0, p.1, c.requires.2)

pub lengths_at-requires : goal.lengths_at-requires
lengths_at-requires c =
    let h = cursor_ready (kind c.args.views 0) (c.requires.0, c.requires.1) _ c.args.at _ _ (c.in_ok-g.ensures 0) refl in
    let i = slot_in_law _ c.args.at _ h in (i.0, i.1, i.2, c.requires.2)

pub past-requires : goal.past-requires
past-requires c =
    let h = cursor_ready (kind c.args.views 0) (c.requires.0, c.requires.1) _ c.args.at _ _ (c.in_ok-g.ensures 0) refl in
    let i = root_in _ _ h.ready in (i.0, i.1, c.lengths_at.ensures.1, c.requires.3)

pub returns-then-past : goal.returns-then-past
returns-then-past c =
    let views = c.args.views in
    let at = c.args.at in
    let l = lengths_in views c.args.new.now in
    let x = c.lengths_at in
    λ effect. let p = resize_past (kind_of views effect c.args.ordered) _ at l _ (c.too_many_lines.ensures effect) c.if-too_many_lines.false _ (at_ordered views effect c.args.ordered _ _ at (c.in_ok-g.ensures effect)) _ refl _ c.crossed.ensures c.if-crossed.false x.new.x x.ensures.0 _ c.past.ensures c.if-past.true in
    (p.0, p.1, x.ensures.1)

pub returns : goal.returns
returns c =
    let views = c.args.views in
    let at = c.args.at in
    let l = lengths_in views c.args.new.now in
    let x = c.lengths_at in
    λ effect. let p = resize_good (kind_of views effect c.args.ordered) _ at l _ (c.too_many_lines.ensures effect) c.if-too_many_lines.false _ (at_ordered views effect c.args.ordered _ _ at (c.in_ok-g.ensures effect)) _ refl _ c.crossed.ensures c.if-crossed.false x.new.x x.ensures.0 _ c.past.ensures c.if-past.false in
    (p.0, p.1, x.ensures.1)
