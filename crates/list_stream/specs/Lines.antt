-- Digits say their number; and document 01's seven lines ("Door and program"), byte by byte: 48 to 57 are the digits, 32 is a blank, 10 ends
-- a line. Assumes nothing.
use Rattle.std.specs.Prelude.{◌≡◌, refl, Bool, true, false, cond, List, [], ◌∷◌, ◌++◌, map, ℕ, zero, suc, ◌+◌, ◌-◌, ◌*◌, ◌%◌, ◌/◌, ◌^◌, ◌<◌, ltb}
use Rattle.std.proofs.Common.{◌∙◌, arith}
use Rattle.list_records.specs.declared.answer.Answer.{Answer}
use Rattle.model.specs.Numeral.{numeral, decimal}
use Rattle.list_stream.specs.Text.{line}

-- the number that digits say, read behind those that say n
unfoldable pub said_by : ℕ → List ℕ → ℕ
said_by n [] = n
said_by n (d ∷ ds) = said_by (n * 10 + (d - 48)) ds

said_behind : (n : ℕ) (ds : List ℕ) (d : ℕ) → said_by n (ds ++ d ∷ []) ≡ said_by n ds * 10 + (d - 48)
unfolding said_by
said_behind n [] d = refl
said_behind n (x ∷ ds) d = said_behind (n * 10 + (x - 48)) ds d

more_said : (k n : ℕ) → said_by 0 (numeral k (n / 10)) ≡ n / 10 → (small : Bool) → said_by 0 (cond small ((48 + n) ∷ []) (numeral k (n / 10) ++ ((48 + n % 10) ∷ []))) ≡ n
unfolding said_by
more_said k n h true = omega arith
more_said k n h false = said_behind 0 (numeral k (n / 10)) (48 + n % 10) ∙ rw h (omega arith)

-- the digits of n say n, where it has no more than k
pub numeral_said : (k n : ℕ) → n < 10 ^ k → said_by 0 (numeral k n) ≡ n
unfolding numeral said_by
numeral_said zero n h = omega arith
numeral_said (suc k) n h = more_said k n (numeral_said k (n / 10) (omega arith)) (ltb n 10)

pub decimal_said : (n : ℕ) → n < 2 ^ 32 → said_by 0 (decimal n) ≡ n
unfolding decimal
decimal_said n h = numeral_said 10 n (omega arith)

-- document 01's seven lines -----------------------------------------------------------------------------------------------------------------

abbrev pub answer : ℕ → ℕ → ℕ → ℕ → Answer
answer n x y z = record { number = n; x = x; y = y; z = z }

abbrev pub answers : List Answer
answers = answer 0 0 0 0 ∷ answer 0 1 3 0 ∷ answer 0 2 0 0 ∷ answer 0 0 0 5 ∷ answer 5 0 0 0 ∷ answer 0 4294967295 0 0 ∷ answer 11 0 0 0 ∷ []

abbrev pub lines : List (List ℕ)
lines =
    (48 ∷ 32 ∷ 48 ∷ 32 ∷ 48 ∷ 32 ∷ 48 ∷ 10 ∷ [])
    ∷ (48 ∷ 32 ∷ 49 ∷ 32 ∷ 51 ∷ 32 ∷ 48 ∷ 10 ∷ [])
    ∷ (48 ∷ 32 ∷ 50 ∷ 32 ∷ 48 ∷ 32 ∷ 48 ∷ 10 ∷ [])
    ∷ (48 ∷ 32 ∷ 48 ∷ 32 ∷ 48 ∷ 32 ∷ 53 ∷ 10 ∷ [])
    ∷ (53 ∷ 32 ∷ 48 ∷ 32 ∷ 48 ∷ 32 ∷ 48 ∷ 10 ∷ [])
    ∷ (48 ∷ 32 ∷ 52 ∷ 50 ∷ 57 ∷ 52 ∷ 57 ∷ 54 ∷ 55 ∷ 50 ∷ 57 ∷ 53 ∷ 32 ∷ 48 ∷ 32 ∷ 48 ∷ 10 ∷ [])
    ∷ (49 ∷ 49 ∷ 32 ∷ 48 ∷ 32 ∷ 48 ∷ 32 ∷ 48 ∷ 10 ∷ [])
    ∷ []

pub printed : map line answers ≡ lines
unfolding numeral decimal line
printed = refl
