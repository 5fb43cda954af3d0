-- `tree_open::open::open_at`: the tree is tested first, then the cursor, then the len of its leaf.
use Rattle.std.proofs.Common.{◌∙◌, refl}
use Rattle.model.specs.Kind.{kind}
use Rattle.model_laws.specs.Handed.{handed}
use Rattle.tree_open.proofs.ReadyLaws.{ready, leaf_area}
use Rattle.tree_open.proofs.CursorLaws.{at_refused, at_stale, at_leaf, at_overfull, at_good}
use Rattle.tree_open.proofs.open.open_at.Goals as goal

pub returns-in_err-g : goal.returns-in_err-g
returns-in_err-g c effect = handed _ _ c.from_residual.ensures.1 ∙ at_refused (kind _ effect) c.requires _ c.args.c _ (c.in_err-g.ensures effect) _ refl

pub current-requires : goal.current-requires
current-requires c = let h = ready (kind _ 0) c.requires _ _ _ (c.in_ok-g.ensures 0) refl in (leaf_area _ _ h, h.leaves)

pub returns-in_err-current : goal.returns-in_err-current
returns-in_err-current c effect =
    handed _ _ c.from_residual-in_err-current.ensures.1
    ∙ at_stale (kind _ effect) c.requires _ c.args.c _ (c.in_ok-g.ensures effect) _ refl _ (c.in_err-current.ensures (kind _ effect)) _ refl

pub len_of-requires : goal.len_of-requires
len_of-requires c = at_leaf (kind _ 0) c.requires _ c.args.c _ (c.in_ok-g.ensures 0) _ refl _ (c.in_ok-current.ensures (kind _ 0)) refl

pub returns-then-g-len_of : goal.returns-then-g-len_of
returns-then-g-len_of c effect =
    at_overfull (kind _ effect) c.requires _ c.args.c _ (c.in_ok-g.ensures effect) _ refl _ (c.in_ok-current.ensures (kind _ effect)) refl _ c.len_of.ensures c.if-g-len_of.true

pub returns : goal.returns
returns c effect =
    at_good (kind _ effect) c.requires _ c.args.c _ (c.in_ok-g.ensures effect) _ refl _ (c.in_ok-current.ensures (kind _ effect)) refl _ c.len_of.ensures c.if-g-len_of.false
