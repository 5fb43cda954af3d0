-- The call that prints a tree's sheet into a lent buffer (change request 2): its causes, what it writes on any words, and what is promised of it.
-- Nothing else is written: head and areas are only read. The theorems are model_theory's. Assumes nothing.
use Rattle.model.specs.declared.number.LeafNo.{LeafNo}
use Rattle.model.specs.declared.way.Broken.{Broken}
use Rattle.model.specs.Numbered.{Numbered}
use Rattle.std.specs.Prelude.{◌≡◌, ◌≢◌, cond, ◌&&◌, List, [], ◌∷◌, ◌++◌, ℕ, zero, suc, ◌+◌, ◌*◌, ◌≤◌, ◌<◌, length, get_or, take, drop, ltb, leb, eqb, Ok, Err, Some, None, Option, Result}
use Rattle.model.specs.Lists.{put_at, Cause, cause}
use Rattle.model.specs.Kind.{prepare}
use Rattle.model.specs.declared.shape.Kind.{Kind}
use Rattle.model.specs.Node.{child, length_in, wrap}
use Rattle.model.specs.State.{State, node_at}
use Rattle.model.specs.Row.{Row}
use Rattle.model.specs.Climb.{first_down, next_up}
use Rattle.model.specs.Refuse.{shape_of, bad_size, too_short, astray}
use Rattle.model.specs.Calls.{unless}
use Rattle.model.specs.Answer.{number_answer}
use Rattle.model.specs.Sheet.{line, pages_for, fill, sheet}
use Rattle.model.specs.declared.shape.Shape.{Shape}

-- 12: a buffer of fewer bytes than 2,750 a page; the pages are those of the head's entry count
abbrev pub small_buffer : ℕ → ℕ → Cause
small_buffer entries bytes = cause 12 (ltb bytes (2750 * pages_for entries))

unfoldable pub print_causes : Kind → State → ℕ → List Cause
print_causes K s bytes =
    let h = s.head in
    bad_size h.fan h.limit ∷ too_short (shape_of K h) h.limit s.leaves s.inners s.homes ∷ small_buffer h.entries bytes ∷ astray (shape_of K h) h ∷ []

-- the slots from slot i of a leaf on, and so on through the leaves after it, n of them: fewer where a link leads outside, a leaf says more slots than it
-- has or none, or no leaf is left
module _ (g : Shape) (levels : ℕ) (ls xs : List ℕ) where
  unfoldable pub met_from : ℕ → Result (Option LeafNo) Broken → ℕ → List (List ℕ)
  met_from zero k i = []
  met_from (suc n) (Ok (Some k)) i =
      let m = node_at g k.0 ls in
      cond (ltb i m.len && leb m.len g.fan)
      (get_or m.slots i [] ∷ cond (ltb (i + 1) m.len) (met_from n (Ok (Some k)) (i + 1)) (met_from n (next_up g levels 0 m.parent m.at xs) 0))
      []
  met_from (suc n) (Ok None) i = []
  met_from (suc n) (Err _) i = []

-- as many as the head says, from the first slot of the first leaf on
unfoldable pub slots_met : Kind → State → List (List ℕ)
slots_met K s =
    let h = s.head in
    let g = shape_of K h in
    met_from g h.levels s.leaves s.inners h.entries (first_down g h.levels h.root.0 s.inners) 0

-- their lines; positions are kept modulo 2 ^ 32
unfoldable pub slot_lines : Kind → ℕ → ℕ → List (List ℕ) → List ℕ
slot_lines K p q [] = []
slot_lines K p q (x ∷ xs) =
    line (child x) p q (length_in prepare x) (length_in K.effect x) ++ slot_lines K (wrap (p + length_in prepare x)) (wrap (q + length_in K.effect x)) xs

-- the answer and the buffer: the pages; where fewer slots are met than the head says, 9 and their lines
unfoldable pub print : Kind → State → List ℕ → (Numbered ℕ) × List ℕ
print K s page =
    let n = s.head.entries in
    let text = slot_lines K 0 0 (slots_met K s) in
    unless (print_causes K s (length page)) (λ m. (Err m, page))
    (cond (eqb (length (slots_met K s)) n) (Ok (pages_for n), put_at 0 (text ++ fill n) page) (Err 9, put_at 0 text page))

-- what is promised ------------------------------------------------------------------------------------------------------------------------

-- on any words: a number other than 0 and 9 leaves the buffer, which is always as long as it was and holds the pages that are answered
pub record PrintLeaves (K : Kind) (s : State) (page : List ℕ) : Type 0 where
  pub refused : (number_answer (print K s page).0).number ≢ 0 → (number_answer (print K s page).0).number ≢ 9 → (print K s page).1 ≡ page
  pub long : length (print K s page).1 ≡ length page
  pub within : (n : ℕ) → (print K s page).0 ≡ Ok n → 2750 * n ≤ length page

-- on a tree that stands for the row r: 12 exactly where the buffer is below 2,750 bytes a page; else the reply is the number of pages, the bytes written
-- are the row's sheet, and bytes past the last page are as they were
pub record PrintsRow (K : Kind) (s : State) (r : Row) (page : List ℕ) : Type 0 where
  pub short : length page < 2750 * pages_for (length r.entries) → print K s page ≡ (Err 12, page)
  pub pages : 2750 * pages_for (length r.entries) ≤ length page → (print K s page).0 ≡ Ok (pages_for (length r.entries))
  pub written : 2750 * pages_for (length r.entries) ≤ length page → take (2750 * pages_for (length r.entries)) (print K s page).1 ≡ sheet K r.entries
  pub rest : 2750 * pages_for (length r.entries) ≤ length page → drop (2750 * pages_for (length r.entries)) (print K s page).1 ≡ drop (2750 * pages_for (length r.entries)) page
