-- How many slots a lookup examines (document 02, CR 14). `examined` is the paper's number, read off the tree and the finger before the call by slot
-- numbers; `look_slots` is what a lookup counts, on any words. On a sound tree they are one number (theory's Examined). Assumes nothing.
use Rattle.model.specs.declared.head.Cursor.{Cursor}
use Rattle.model.specs.Numbered.{Numbered}
use Rattle.std.specs.Prelude.{◌≡◌, Bool, true, cond, ◌&&◌, List, [], ◌∷◌, ◌++◌, ℕ, zero, suc, ◌+◌, ◌-◌, ◌*◌, ◌≤◌, ◌<◌, ltb, leb, eqb, get_or, take, Ok, Err, Some, None, Option}
use Rattle.model.specs.declared.shape.Kind.{Kind}
use Rattle.model.specs.declared.shape.Shape.{Shape}
use Rattle.model.specs.Node.{Node, child, length_in, total, used, half, wrap}
use Rattle.model.specs.State.{State, node_at}
use Rattle.model.specs.Row as row
use Rattle.model.specs.Row.{Row, Answer, done, refused}
use Rattle.model.specs.Locate.{served, served_by, from_root}
use Rattle.model.specs.Refuse.{shape_of, opening}
use Rattle.model.specs.Answer.{cursor_values}
use Rattle.model.specs.Calls as calls
use Rattle.model.specs.Calls.{Reply, reply, unless}
use Rattle.model.specs.Deepest.{deepest}
use Rattle.model.specs.declared.head.Finger.{Finger}
use Rattle.model.specs.Locate.{Search}
use Rattle.model.specs.declared.way.Searched.{Searched}

-- the paper's number ---------------------------------------------------------------------------------------------------------------------

-- the slots from a to b, back or on, both included
abbrev pub span : ℕ → ℕ → ℕ
span a b = (a - b) + (b - a) + 1

-- how many slots stand before the one that holds position x of view v; all of them where none holds it
unfoldable pub slots_before : ℕ → ℕ → List (List ℕ) → ℕ
slots_before v x [] = 0
slots_before v x (y ∷ ys) = cond (ltb x (length_in v y)) 0 (suc (slots_before v (x - length_in v y) ys))

-- down n levels from inner node k, in which position x is asked for: in each node on the way, the leaf too, the slots up to and with the one taken
module _ (v : ℕ) (g : Shape) (ls xs : List ℕ) where
  unfoldable pub downward : ℕ → ℕ → ℕ → ℕ
  downward zero k x = slots_before v x (used (node_at g k ls)) + 1
  downward (suc n) k x =
      let us = used (node_at g k xs) in
      let j = slots_before v x us in
      j + 1 + downward n (child (get_or us j [])) (x - total v (take j us))

-- the finger serves: for its own view and an index at or past its start
abbrev pub serves : ℕ → ℕ → Finger → Bool
serves v x f = eqb f.view v && leb f.start x

module _ (K : Kind) (s : State) (v x : ℕ) where
  abbrev pub finger_leaf : Finger → Node
  finger_leaf f = node_at (shape_of K s.head) f.leaf s.leaves

  -- its leaf holds the position
  abbrev pub holds : Finger → Bool
  holds f = ltb (x - f.start) (total v (used (finger_leaf f)))

  abbrev pub from_top : ℕ
  from_top = downward v (shape_of K s.head) s.leaves s.inners s.head.levels s.head.root.0 x

  -- from the finger's own slot to the one that holds the position; where its leaf doesn't hold it, to the leaf's last, and then from the root
  abbrev pub by_finger : Finger → ℕ
  by_finger f =
      cond (serves v x f)
      (cond (holds f) (span f.slot (slots_before v (x - f.start) (used (finger_leaf f)))) (((finger_leaf f).len - f.slot) + from_top))
      from_top

  abbrev pub by_held : Option Finger → ℕ
  by_held None = from_top
  by_held (Some f) = by_finger f

  unfoldable pub examined : ℕ
  examined = by_held s.head.finger

-- what a lookup counts ---------------------------------------------------------------------------------------------------------------------

-- what a search found, and what it counted
abbrev pub with_slots : Search → ℕ → Searched
with_slots r n = record { found = r; examined = n }

-- a search that finds nothing counts nothing
abbrev pub found_slots : Search → ℕ → ℕ
found_slots (Ok (Some (f, offset))) n = n
found_slots (Ok None) n = 0
found_slots (Err _) n = 0

-- by the finger: from its own slot to the one found, or in vain to the last of the leaf's len
abbrev pub finger_slots : Finger → ℕ → Search → ℕ
finger_slots f len (Ok (Some (m, offset))) = span f.slot m.slot
finger_slots f len (Ok None) = len - f.slot
finger_slots f len (Err _) = 0

module _ (v e : ℕ) (g : Shape) where
  unfoldable pub served_slots : Finger → ℕ → ℕ → List ℕ → ℕ
  served_slots f leaves x ls = cond (serves v x f) (finger_slots f (node_at g f.leaf ls).len (served v e g f leaves x ls)) 0

  abbrev pub held_slots : Option Finger → ℕ → ℕ → List ℕ → ℕ
  held_slots None leaves x ls = 0
  held_slots (Some f) leaves x ls = served_slots f leaves x ls

-- a by the finger and b from the root, each with what it found
abbrev pub looked_slots : Search → ℕ → Search → ℕ → ℕ
looked_slots (Ok (Some (f, offset))) a again b = a
looked_slots (Ok None) a again b = found_slots again (wrap (a + b))
looked_slots (Err _) a again b = 0

module _ (K : Kind) (s : State) (v x : ℕ) where
  -- 0 where the lookup is refused
  unfoldable pub look_slots : ℕ
  look_slots =
      let h = s.head in
      let g = shape_of K h in
      unless (opening K s) (λ n. 0)
      (looked_slots (served_by v K.effect g h.finger h.leaves x s.leaves) (held_slots v K.effect g h.finger h.leaves x s.leaves)
      (from_root v K.effect g h.levels h.root.0 h.leaves x s.leaves s.inners) (from_top K s v x))

-- the lookups with their count -------------------------------------------------------------------------------------------------------------

pub record Counted (A : Type 0) : Type 0 where
  pub answer : A
  pub examined : ℕ

abbrev pub counted : {A : Type 0} → A → ℕ → Counted A
counted a n = record { answer = a; examined = n }

unfoldable pub locate : Kind → State → ℕ → ℕ → Reply (Counted (Numbered (Cursor × ℕ × ℕ × ℕ)))
locate K s v x = let r = calls.locate K s v x in reply r.after (counted r.answer (look_slots K s v x))

unfoldable pub char_index_to_entry : Kind → State → ℕ → ℕ → Reply (Counted (Numbered (Cursor × ℕ)))
char_index_to_entry K s v x = let r = calls.char_index_to_entry K s v x in reply r.after (counted r.answer (look_slots K s v x))

-- the number and values of such an answer: the count stands behind the others
abbrev pub located_with : ℕ → Numbered (Cursor × ℕ × ℕ × ℕ) → Answer
located_with n (Ok (c, offset, effect, prepare)) = done (cursor_values c ++ offset ∷ effect ∷ prepare ∷ n ∷ [])
located_with n (Err m) = refused m

abbrev pub located_answer : Counted (Numbered (Cursor × ℕ × ℕ × ℕ)) → Answer
located_answer a = located_with a.examined a.answer

-- how far a lookup goes ----------------------------------------------------------------------------------------------------------------------

module _ (K : Kind) (s : State) (v x : ℕ) where
  -- the finger serves and its leaf holds the position
  abbrev pub Near : Option Finger → Type 0
  Near None = ⊥
  Near (Some f) = (serves v x f ≡ true) × (holds K s v x f ≡ true)

  -- the count n of a lookup that isn't refused
  pub record Far (n : ℕ) : Type 0 where
    pub is : n ≡ examined K s v x
    pub most : n ≤ s.head.fan * (s.head.levels + 2)
    pub near : Near s.head.finger → n ≤ s.head.fan
    pub floor : n ≤ s.head.fan * (deepest (half s.head.fan) s.head.entries + 2)

  -- what a lookup counts: where the row has the position, as above, else nothing
  pub record Examines (r : Row) : Type 0 where
    pub far : x < row.total v r.entries → Far (look_slots K s v x)
    pub refused : row.total v r.entries ≤ x → look_slots K s v x ≡ 0
