-- Entries whose length isn't known yet (change request 11): a choice of lengths, the entries that could hold a position under one, and an
-- entry's earliest and latest position. All of it goes by the choice; no sum of bounds stands here. Assumes nothing.
use Rattle.std.specs.Prelude.{◌≡◌, List, [], ◌∷◌, ℕ, ◌+◌, ◌≤◌, ◌<◌, length, get_or, take}
use Rattle.model.specs.Lists.{sum_by}
use Rattle.model.specs.Row.{Entry, entry, length_in, no_entry}

-- the lowest and the highest length of an entry
abbrev pub low : Entry → ℕ
low e = length_in 0 e

abbrev pub high : Entry → ℕ
high e = length_in 1 e

-- the entry behind m others
abbrev pub behind : ℕ → List Entry → Entry
behind m es = get_or es m (entry no_entry [])

-- one chosen length for each entry, within its range
unfoldable pub Chosen : List ℕ → List Entry → Type 0
Chosen [] [] = Unit {0}
Chosen [] (e ∷ es) = ⊥
Chosen (c ∷ cs) [] = ⊥
Chosen (c ∷ cs) (e ∷ es) = (low e ≤ c) × (c ≤ high e) × Chosen cs es

-- the sum of the chosen lengths before the entry behind m others
abbrev pub sum_before : ℕ → List ℕ → ℕ
sum_before m cs = sum_by (λ c. c) (take m cs)

-- the entry behind m others could hold position p: under some choice the sum before it is at or below p, and with its own length above p
pub record CouldHold (es : List Entry) (m p : ℕ) : Type 0 where
  pub chosen : List ℕ
  pub within : Chosen chosen es
  pub there : m < length es
  pub before : sum_before m chosen ≤ p
  pub above : p < sum_before m chosen + get_or chosen m 0

-- it is the first, or the last, of those that could
pub record FirstToHold (es : List Entry) (m p : ℕ) : Type 0 where
  pub could : CouldHold es m p
  pub first : (j : ℕ) → CouldHold es j p → m ≤ j

pub record LastToHold (es : List Entry) (m p : ℕ) : Type 0 where
  pub could : CouldHold es m p
  pub last : (j : ℕ) → CouldHold es j p → j ≤ m

-- under some choice the entry behind m others stands at position p
pub record CouldStand (es : List Entry) (m p : ℕ) : Type 0 where
  pub chosen : List ℕ
  pub within : Chosen chosen es
  pub there : m < length es
  pub is : sum_before m chosen ≡ p

-- its earliest position is the least, its latest the greatest of all choices
pub record Earliest (es : List Entry) (m p : ℕ) : Type 0 where
  pub could : CouldStand es m p
  pub least : (q : ℕ) → CouldStand es m q → p ≤ q

pub record Latest (es : List Entry) (m p : ℕ) : Type 0 where
  pub could : CouldStand es m p
  pub greatest : (q : ℕ) → CouldStand es m q → q ≤ p
