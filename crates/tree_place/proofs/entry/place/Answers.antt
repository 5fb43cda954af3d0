-- `tree_place::entry::place`: a full leaf is split first; where that leaves room the slot is inserted and the home follows, and else the head stays.
use Rattle.std.proofs.Common.{ℕ, List, ◌∷◌, sym, refl, ap, ◌∙◌, arith}
use Rattle.model.specs.Length.{lengths_in}
use Rattle.model.specs.Node.{Node, inserted}
use Rattle.model.specs.State.{node_at, put_node}
use Rattle.model.specs.Place as model
use Rattle.model_laws.specs.Handed.{handed_broken}
use Rattle.tree_place.proofs.EntryLaws.{next_slot}
use Rattle.tree_place.proofs.ReadyLaws.{RoomReady, ready_at, ready_there, ready_split, ready_done, lost_split, lost_room, gone}
use Rattle.tree_place.proofs.entry.place.Goals.{Joined-len_of-fan, Start, then-len_of-fan+in_ok-split_leaf+else-not-roomy, else-len_of-fan}
use Rattle.tree_place.proofs.entry.place.Goals as goal

-- a node in which the entry has come to slot j
abbrev with-entry : Start → ℕ → Node → Node
with-entry s j = inserted j (s.args.head.entries ∷ lengths_in s.args.views s.args.x.now)

-- either way the leaf has room then
ready : (c : Joined-len_of-fan) → RoomReady c.args.g 0 c.args.head c.args.leaves.now c.args.inners.now c.args.homes.now c.args.k.0 c.args.i c.if-len_of-fan.leaves c.if-len_of-fan.inners c.if-len_of-fan.homes c.if-len_of-fan.top c.if-len_of-fan.room
ready c =
    let a = c.args in
    let len = c.len_of.ensures in
    elim c.if-len_of-fan.branch [
      | then-len_of-fan+in_ok-split_leaf+else-not-roomy w ↦
          ready_at _ _ _ _ _ _ _ _ _ _ w.leaves-is w.inners-is w.homes-is w.top-is w.room-is
          (ready_split a.views a.g 0 a.head a.leaves.now a.inners.now a.homes.now a.k.0 a.i a.x.now c.requires.0 (omega (arith, c.requires.1)) (sym len ∙ w.if-len_of-fan.true) _ _ _ _ _
          (w.in_ok-split_leaf.ensures.0 a.head a.i) refl _ w.halved-room.ensures (sym w.roomy.ensures ∙ w.if-not-roomy.false) w.split_leaf.auto.leaves w.split_leaf.auto.inners w.split_leaf.auto.homes w.in_ok-split_leaf.ensures.1)
      | else-len_of-fan w ↦
          ready_at _ _ _ _ _ _ _ _ _ _ w.leaves-is w.inners-is w.homes-is w.top-is w.room-is
          (ready_there a.views a.g 0 a.head a.leaves.now a.inners.now a.homes.now a.k.0 a.i a.x.now c.requires.0 (omega (arith, c.requires.1)) (λ z. w.if-len_of-fan.false (len ∙ z)))
    ]

pub returns-in_err-split_leaf : goal.returns-in_err-split_leaf
unfolding model.place
returns-in_err-split_leaf c =
    let a = c.args in
    gone _ (handed_broken _ _ c.from_residual.ensures.1)
    (lost_split a.views a.g 0 a.head a.leaves.now a.inners.now a.homes.now a.k.0 a.i a.x.now c.requires.0 (omega (arith, c.requires.1)) (sym c.len_of.ensures ∙ c.if-len_of-fan.true)
    9 c.split_leaf.new.top _ _ _ (c.in_err-split_leaf.ensures.0 a.head a.i) (λ z. omega arith) (with-entry (goal.at.returns-in_err-split_leaf c).Start))

pub returns-then-not-roomy : goal.returns-then-not-roomy
unfolding model.place
returns-then-not-roomy c =
    let a = c.args in
    lost_room a.views a.g 0 a.head a.leaves.now a.inners.now a.homes.now a.k.0 a.i a.x.now c.requires.0 (omega (arith, c.requires.1)) (sym c.len_of.ensures ∙ c.if-len_of-fan.true)
    _ c.split_leaf.new.top _ _ _ (c.in_ok-split_leaf.ensures.0 a.head a.i) refl _ c.halved-room.ensures (sym c.roomy.ensures ∙ c.if-not-roomy.true) (with-entry (goal.at.returns-then-not-roomy c).Start)

pub returns : goal.returns
unfolding model.place
returns c =
    let a = c.args in
    let if1 = c.if-len_of-fan in
    let insert = c.insert in
    let k = if1.room.leaf.0 in
    ready_done (with-entry (goal.at.returns c).Start) _ _ (ready (goal.at.returns c).Joined-len_of-fan)
    (insert.ensures ∙ ap (λ (y : List ℕ). put_node a.g k (inserted if1.room.slot y (node_at a.g k if1.leaves)) if1.leaves)
    (next_slot a.views a.head.entries a.g a.x.now c.requires.0.same c.requires.2 c.requires.0.next))
    c.entered.ensures
