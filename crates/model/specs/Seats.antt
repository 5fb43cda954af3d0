-- Fair shares of a sheet (document 02, CR 10): each of eight seats has a share of the entries, and the entries made for it are charged to it.
-- The rules on numbers alone: how many entries there are, of how many, and whose. Assumes nothing.
use Rattle.std.specs.Prelude.{◌≡◌, Bool, true, false, cond, not, ◌&&◌, ◌||◌, List, ℕ, zero, suc, ◌+◌, ◌-◌, ◌≤◌, ◌<◌, ltb, leb, eqb, get_or, set, replicate, Some, None, Option}
use Rattle.model.specs.Lists.{Cause, cause}
use Rattle.model.specs.Node.{wrap}
use Rattle.model.specs.declared.seats.Seats.{Seats}

abbrev pub seats_of : Bool → List ℕ → List ℕ → Seats
seats_of seated shares charges = record { seated = seated; shares = shares; charges = charges }

-- eight zeros: what is charged at make and after a reset, whose first entry is charged to none
abbrev pub no_charges : List ℕ
no_charges = replicate 8 0

-- a tree without seats
abbrev pub no_seats : Seats
no_seats = seats_of false (replicate 8 0) no_charges

-- f of the n numbers from j on, together; and of all seats, 0 to 7
unfoldable pub sum_from : (ℕ → ℕ) → ℕ → ℕ → ℕ
sum_from f j zero = 0
sum_from f j (suc n) = f j + sum_from f (suc j) n

abbrev pub over_seats : (ℕ → ℕ) → ℕ
over_seats f = sum_from f 0 8

abbrev pub sum : List ℕ → ℕ
sum xs = over_seats (λ j. get_or xs j 0)

abbrev pub share : Seats → ℕ → ℕ
share b j = get_or b.shares j 0

abbrev pub charge : Seats → ℕ → ℕ
charge b j = get_or b.charges j 0

-- what is left of a seat's share: nothing where the seat is at or over it
abbrev pub unused : Seats → ℕ → ℕ
unused b j = share b j - charge b j

-- of all seats together, and of all the others than seat i
abbrev pub all_unused : Seats → ℕ
all_unused b = over_seats (unused b)

abbrev pub others_unused : Seats → ℕ → ℕ
others_unused b i = over_seats (λ j. cond (eqb j i) 0 (unused b j))

-- the free entries of a tree of that limit with n entries
abbrev pub free : ℕ → ℕ → ℕ
free limit n = limit - n

-- the shares sum to at most limit - 1
abbrev pub within_limit : ℕ → List ℕ → Bool
within_limit limit shares = ltb (sum shares) limit

-- the causes of a refusal -------------------------------------------------------------------------------------------------------------------

-- 10, before all else: a seat above 7, a seat in a tree without seats, none in a seated one
abbrev pub bad_seat : Seats → Option ℕ → Bool
bad_seat b None = b.seated
bad_seat b (Some i) = not b.seated || ltb 7 i

-- 18: the seat is at or over its share, and the free entries don't outnumber all the other seats' unused shares together
abbrev pub over : ℕ → ℕ → Seats → ℕ → Cause
over limit n b i = cause 18 (leb (share b i) (charge b i) && leb (free limit n) (others_unused b i))

-- 19, at make: the shares sum too high
abbrev pub too_high : ℕ → List ℕ → Cause
too_high limit shares = cause 19 (not (within_limit limit shares))

-- what calls do to the charges --------------------------------------------------------------------------------------------------------------

-- one entry more for the seat that was named; without seats none is. A charge is a u32: one that a damaged head holds may go round
abbrev pub charged : ℕ → Seats → Seats
charged i b = seats_of b.seated b.shares (set b.charges i (wrap (charge b i + 1)))

abbrev pub charged_to : Option ℕ → Seats → Seats
charged_to None b = b
charged_to (Some i) b = charged i b

-- reset sets all charges to zero; a tree without seats stays one
abbrev pub uncharged : Seats → Seats
uncharged b = seats_of b.seated b.shares no_charges

-- what audit also asks ----------------------------------------------------------------------------------------------------------------------

-- of a seated tree: shares sum to at most limit - 1, charges to the entries less one, and the free entries cover all unused shares
pub record FairShares (limit n : ℕ) (b : Seats) : Type 0 where
  pub shares : sum b.shares < limit
  pub charges : sum b.charges + 1 ≡ n
  pub covers : all_unused b ≤ free limit n

abbrev pub Fair : ℕ → ℕ → Seats → Type 0
Fair limit n b = b.seated ≡ true → FairShares limit n b

-- the same by numbers
unfoldable pub is_fair : ℕ → ℕ → Seats → Bool
is_fair limit n b = not b.seated || (within_limit limit b.shares && eqb (sum b.charges + 1) n && leb (all_unused b) (free limit n))
