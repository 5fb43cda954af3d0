-- `calls_insert::any::enter`: the tests, then the slot aimed at, the entry placed there, and the climb; where one of them is refused the head is as it was.
use mathlib.Core.Path.{◌≡◌, sym, ◌∙◌}
use mathlib.Core.Bool.{true}
use mathlib.Core.List.{List, [], ◌∷◌}
use Prim.Native.Nat.{ℕ, ◌<◌}
use Rattle.std.specs.Prelude.{Ok}
use Rattle.std.proofs.lemmas.Result.{err_from_is_err_and}
use Rattle.model.specs.Numbered.{number_of}
use Rattle.model.specs.Lists.{Cause, cause, refusal}
use Rattle.model.specs.Kind.{kind_of}
use Rattle.model.specs.Length.{lengths_in}
use Rattle.model.specs.State.{State, state}
use Rattle.model.specs.Refuse.{shape_of}
use Rattle.model.specs.Calls.{insert_causes}
use Rattle.model.specs.declared.shape.Kind.{Kind}
use Rattle.model.specs.declared.shape.Shape.{Shape}
use Rattle.tree_open.proofs.Causes.{one_cause}
use Rattle.tree_open.proofs.ReadyLaws.{leaf_area, inner_area}
use Rattle.tree_open.specs.Open.{opened_by}
use Rattle.tree_open.specs.Ready.{Ready}
use Rattle.calls_insert.specs.Put.{aimed}
use Rattle.calls_insert.specs.declared.any.Aim.{Aim}
use Rattle.calls_insert.proofs.TargetLaws.{Aimed, insert_ready, insert_room}
use Rattle.calls_insert.proofs.PutLaws.{AimWithin, in_leaf, aim_lost, place_in, put_lost, way_in, put_whole, put_broken, insert_refused, insert_done}
use Rattle.calls_insert.proofs.any.enter.Goals.{Start}
use Rattle.calls_insert.proofs.any.enter.Goals as goal

-- the tree as it was lent, its kind, and the entry's lengths
abbrev entry : Start → State
entry a = state a.args.head a.args.leaves.now a.args.inners.now a.args.homes.now

abbrev kind : Start → Kind
kind a = kind_of a.args.views a.args.effect a.args.ordered

abbrev given : Start → List ℕ
given a = lengths_in a.args.views a.args.x.now

-- what the tests say of the tree, and of the slot aimed at
abbrev Opened : Start → Shape → Type 0
Opened s g =
    (effect : ℕ) (causes : List Cause) → refusal causes ≡ number_of s.args.room
    → Ok g ≡ opened_by (insert_causes (kind_of s.args.views effect s.args.ordered) causes (entry s) s.args.before (given s)) (shape_of (kind_of s.args.views effect s.args.ordered) s.args.head)

tested : (s : Start) (g : Shape) → Opened s g → Ready (kind s) (entry s) g × Aimed (kind s) (entry s) s.args.before × (s.args.head.entries < s.args.head.limit)
tested s g opened =
    let room = number_of s.args.room in
    let want : List Cause = cause room true ∷ [] in
    let e = opened s.args.effect want (one_cause room) in
    let r = insert_ready (kind s) (s.requires.0, s.requires.1) (entry s) want s.args.before (given s) g e in
    (r.0, r.1, s.requires.5 (sym (one_cause room) ∙ insert_room (kind s) (s.requires.0, s.requires.1) (entry s) want s.args.before (given s) g e))

aiming : (s : Start) (g : Shape) (a : Aim) → Opened s g
    → ((K : Kind) (hs : List ℕ) → g ≡ shape_of K s.args.head → Ok a ≡ aimed K (state s.args.head s.args.leaves.now s.args.inners.now hs) s.args.before) → AimWithin (kind s) (entry s) s.args.before g a
aiming s g a opened e =
    let t = tested s g opened in
    in_leaf (kind s) (entry s) s.args.before g a t.0.same t.1 (e (kind s) s.args.homes.now t.0.same)

pub returns-in_err-g : goal.returns-in_err-g
returns-in_err-g c =
    let s = (goal.at.returns-in_err-g c).Start in
    let p = err_from_is_err_and c.from_residual.result c.from_residual.ensures.1 in
    λ causes room. rw (p.1, p.2) (insert_refused (kind s) causes (entry s) s.args.before (given s) _ (c.in_err-g.ensures s.args.effect causes room))

pub aim_at-requires : goal.aim_at-requires
aim_at-requires c =
    let s = (goal.at.aim_at-requires c).Start in
    let h = (tested s _ c.in_ok-g.ensures).0 in
    (leaf_area (entry s) _ h, inner_area (entry s) _ h)

pub returns-in_err-to : goal.returns-in_err-to
returns-in_err-to c =
    let s = (goal.at.returns-in_err-to c).Start in
    let h = (tested s _ c.in_ok-g.ensures).0 in
    let p = err_from_is_err_and c.from_residual-in_err-to.result c.from_residual-in_err-to.ensures.1 in
    λ causes room. rw (p.1, p.2)
    (insert_done (kind s) causes (entry s) s.args.before (given s) _ (c.in_ok-g.ensures s.args.effect causes room) _ (aim_lost (kind s) (entry s) (given s) s.args.before _ h.same (c.in_err-to.ensures (kind s) s.args.homes.now h.same)))

pub place-requires : goal.place-requires
place-requires c =
    let s = (goal.at.place-requires c).Start in
    let h = tested s _ c.in_ok-g.ensures in
    let w = aiming s _ _ c.in_ok-g.ensures c.in_ok-to.ensures in
    (place_in (kind s) (entry s) s.args.before _ _ s.args.x.now h.0 w h.2 c.requires.3, w.slot, c.requires.4)

pub returns-in_err-r : goal.returns-in_err-r
returns-in_err-r c =
    let s = (goal.at.returns-in_err-r c).Start in
    let w = aiming s _ _ c.in_ok-g.ensures c.in_ok-to.ensures in
    let p = err_from_is_err_and c.from_residual-in_err-r.result c.from_residual-in_err-r.ensures.1 in
    λ causes room. rw (p.1, p.2)
    (insert_done (kind s) causes (entry s) s.args.before (given s) _ (c.in_ok-g.ensures s.args.effect causes room) _ (put_lost (kind s) (entry s) s.args.before _ _ s.args.x.now w _ _ _ c.in_err-r.ensures))

pub way_sum-requires : goal.way_sum-requires
way_sum-requires c =
    let s = (goal.at.way_sum-requires c).Start in
    let h = tested s _ c.in_ok-g.ensures in
    let w = aiming s _ _ c.in_ok-g.ensures c.in_ok-to.ensures in
    let v = way_in (kind s) (entry s) s.args.before _ _ s.args.x.now w _ _ _ _ _ _ c.in_ok-r.ensures h.0 _ _ c.place.auto.leaves c.place.auto.inners in
    (v.0, v.1, c.requires.2, v.2, v.3, v.4)

pub returns-in_err-sum : goal.returns-in_err-sum
returns-in_err-sum c =
    let s = (goal.at.returns-in_err-sum c).Start in
    let h = tested s _ c.in_ok-g.ensures in
    let w = aiming s _ _ c.in_ok-g.ensures c.in_ok-to.ensures in
    let p = err_from_is_err_and c.from_residual-in_err-sum.result c.from_residual-in_err-sum.ensures.1 in
    λ causes room. rw (p.1, p.2)
    (insert_done (kind s) causes (entry s) s.args.before (given s) _ (c.in_ok-g.ensures s.args.effect causes room) _
    (put_broken (kind s) (entry s) s.args.before _ _ s.args.x.now w _ _ _ _ _ _ c.in_ok-r.ensures h.0.same c.requires.4 _ c.in_err-sum.ensures))

pub returns : goal.returns
returns c =
    let s = (goal.at.returns c).Start in
    let h = tested s _ c.in_ok-g.ensures in
    let w = aiming s _ _ c.in_ok-g.ensures c.in_ok-to.ensures in
    λ causes room. insert_done (kind s) causes (entry s) s.args.before (given s) _ (c.in_ok-g.ensures s.args.effect causes room) _
    (put_whole (kind s) (entry s) s.args.before _ _ s.args.x.now w _ _ _ _ _ _ c.in_ok-r.ensures h.0.same c.requires.4 _ _ c.in_ok-sum.ensures)
