-- `calls_read::any::cmp`: both cursors are tested, the first before the second; then slots of one leaf are compared, or paths.
use Rattle.std.proofs.Common.{refl, ◌∙◌}
use Rattle.std.specs.Cmp.{ranked}
use Rattle.model.specs.Kind.{kind}
use Rattle.model_laws.specs.Handed.{handed}
use Rattle.tree_open.proofs.ReadyLaws.{ready, leaf_area}
use Rattle.calls_read.proofs.OrderLaws.{paths_in, by_slot, cmp_refused, cmp_first, cmp_second, cmp_slot, cmp_path}
use Rattle.calls_read.proofs.any.cmp.Goals as goal

pub current-requires : goal.current-requires
current-requires c =
    let h = ready (kind c.args.views 0) c.requires _ _ _ (c.in_ok-g.ensures 0) refl in
    (leaf_area _ _ h, h.leaves)

pub returns-in_err-g : goal.returns-in_err-g
returns-in_err-g c effect = handed _ _ c.from_residual.ensures.1 ∙ cmp_refused (kind c.args.views effect) c.requires _ c.args.a c.args.b _ (c.in_err-g.ensures effect)

pub returns-in_err-current : goal.returns-in_err-current
returns-in_err-current c effect =
    handed _ _ c.from_residual-in_err-current.ensures.1
    ∙ cmp_first (kind c.args.views effect) c.requires _ c.args.a c.args.b _ (c.in_ok-g.ensures effect) _ (c.in_err-current.ensures (kind c.args.views effect))

pub current-requires-2 : goal.current-requires-2
current-requires-2 c =
    let h = ready (kind c.args.views 0) c.requires _ _ _ (c.in_ok-g.ensures 0) refl in
    (leaf_area _ _ h, h.leaves)

pub returns-in_err-current-2 : goal.returns-in_err-current-2
returns-in_err-current-2 c effect =
    handed _ _ c.from_residual-in_err-current-2.ensures.1
    ∙ cmp_second (kind c.args.views effect) c.requires _ c.args.a c.args.b _ (c.in_ok-g.ensures effect) (c.in_ok-current.ensures (kind c.args.views effect))
    _ (c.in_err-current-2.ensures (kind c.args.views effect))

pub returns-then-a-b : goal.returns-then-a-b
returns-then-a-b c effect =
    cmp_slot (kind c.args.views effect) c.requires _ c.args.a c.args.b _ (c.in_ok-g.ensures effect) (c.in_ok-current.ensures (kind c.args.views effect))
    (c.in_ok-current-2.ensures (kind c.args.views effect)) _ c.if-a-b.true (by_slot _ _ _ (ranked _ _ _ c.cmp.ensures))

pub by_path-requires : goal.by_path-requires
by_path-requires c =
    paths_in (kind c.args.views 0) c.requires _ c.args.a c.args.b _ (c.in_ok-g.ensures 0) (c.in_ok-current.ensures (kind c.args.views 0))
    (c.in_ok-current-2.ensures (kind c.args.views 0))

pub returns : goal.returns
returns c effect =
    cmp_path (kind c.args.views effect) c.requires _ c.args.a c.args.b _ (c.in_ok-g.ensures effect) (c.in_ok-current.ensures (kind c.args.views effect))
    (c.in_ok-current-2.ensures (kind c.args.views effect)) _ c.if-a-b.false c.by_path.ensures
