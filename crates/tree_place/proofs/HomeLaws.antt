-- One turn of rehoming the entries of a leaf. Assumes nothing.
use Rattle.std.proofs.Common.{◌≡◌, ℕ, ◌+◌, ◌<◌, ◌≤◌, List, [], length, get_or, drop, set, sym, ap, ◌∙◌, add-one, drop_of_length-le, drop-cons, get_or-take, le-ltb, lt-ltb}
use Rattle.model.specs.Node.{child, used}
use Rattle.model.specs.State.{node_at}
use Rattle.model.specs.declared.shape.Shape.{Shape}
use Rattle.model_laws.specs.AreaRead.{used_length}
use Rattle.model.specs.Place.{rehome}

module _ (entries k i : ℕ) (slots : List (List ℕ)) (hs : List ℕ) where
  home_on : i < length slots → child (get_or slots i []) < entries
      → rehome entries k (drop i slots) hs ≡ rehome entries k (drop (i + 1) slots) (set hs (child (get_or slots i [])) k)
  unfolding rehome
  home_on h l = rw (add-one, drop-cons slots i [] h, lt-ltb (child (get_or slots i [])) entries l)

  home_past : i < length slots → entries ≤ child (get_or slots i []) → rehome entries k (drop i slots) hs ≡ (9, hs)
  unfolding rehome
  home_past h l = rw (drop-cons slots i [] h, le-ltb (child (get_or slots i [])) entries l)

  home_end : length slots ≤ i → rehome entries k (drop i slots) hs ≡ (0, hs)
  unfolding rehome
  home_end h = rw (drop_of_length-le slots h)

-- the same in the words of the loop: len and id as they were read, W what the whole gives
module _ (g : Shape) (entries k i len id : ℕ) (leaves hs : List ℕ) (W : ℕ × List ℕ) (el : len ≡ (node_at g k leaves).len) (few : (node_at g k leaves).len ≤ g.fan)
    (inv : rehome entries k (drop i (used (node_at g k leaves))) hs ≡ W) where
  in_use_law : i < len → i < length (used (node_at g k leaves))
  in_use_law h = rw (used_length g k leaves few, ← el) h

  read : i < len → id ≡ child (get_or (node_at g k leaves).slots i []) → child (get_or (used (node_at g k leaves)) i []) ≡ id
  read h e = ap child (get_or-take (node_at g k leaves).len (node_at g k leaves).slots i [] (rw (← el) h)) ∙ sym e

  pub turn_on : i < len → id ≡ child (get_or (node_at g k leaves).slots i []) → id < entries → rehome entries k (drop (i + 1) (used (node_at g k leaves))) (set hs id k) ≡ W
  turn_on h e l =
      let r = read h e in
      sym (ap (λ (j : ℕ). rehome entries k (drop (i + 1) (used (node_at g k leaves))) (set hs j k)) r) ∙ sym (home_on entries k i (used (node_at g k leaves)) hs (in_use_law h) (rw r l)) ∙ inv

  pub turn_past : i < len → id ≡ child (get_or (node_at g k leaves).slots i []) → entries ≤ id → (9, hs) ≡ W
  turn_past h e l = sym (home_past entries k i (used (node_at g k leaves)) hs (in_use_law h) (rw (read h e) l)) ∙ inv

  pub turn_end : len ≤ i → (0, hs) ≡ W
  turn_end h = sym (home_end entries k i (used (node_at g k leaves)) hs (rw (used_length g k leaves few, ← el) h)) ∙ inv
