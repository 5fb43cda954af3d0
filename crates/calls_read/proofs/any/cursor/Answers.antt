-- `calls_read::any::cursor`: the tree is tested first, then the id; the entry's home is a leaf in use, which is searched for it.
use Rattle.std.proofs.Common.{refl, lt_of_lt_of_le, arith, ◌∙◌}
use Rattle.model.specs.Kind.{kind}
use Rattle.model_laws.specs.Handed.{handed}
use Rattle.tree_open.proofs.ReadyLaws.{ready, leaf_area}
use Rattle.calls_read.proofs.ReadLaws.{cursor_refused, cursor_past, cursor_astray, cursor_good}
use Rattle.calls_read.proofs.any.cursor.Goals as goal

pub returns-in_err-g : goal.returns-in_err-g
returns-in_err-g c effect = handed _ _ c.from_residual.ensures.1 ∙ cursor_refused (kind _ effect) _ _ _ (c.in_err-g.ensures effect)

pub returns-then-head-i : goal.returns-then-head-i
returns-then-head-i c effect = cursor_past (kind _ effect) _ _ _ (c.in_ok-g.ensures effect) c.if-head-i.true

pub bounds-homes-i : goal.bounds-homes-i
bounds-homes-i c =
    let h = ready (kind _ 0) c.requires _ _ _ (c.in_ok-g.ensures 0) refl in
    omega (arith, h.entries, h.home_area)

pub returns-then-k-head : goal.returns-then-k-head
returns-then-k-head c effect = cursor_astray (kind _ effect) _ _ _ (c.in_ok-g.ensures effect) c.if-head-i.false _ refl c.if-k-head.true

pub cursor_in-requires : goal.cursor_in-requires
cursor_in-requires c =
    let h = ready (kind _ 0) c.requires _ _ _ (c.in_ok-g.ensures 0) refl in
    (leaf_area _ _ h, lt_of_lt_of_le c.if-k-head.false h.leaves)

pub returns : goal.returns
returns c effect = cursor_good (kind _ effect) _ _ _ (c.in_ok-g.ensures effect) c.if-head-i.false _ refl c.if-k-head.false _ c.cursor_in.ensures
