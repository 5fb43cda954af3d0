-- What is promised of the two calls on files of edits (change request 5). The theorems are `checks` and `differs` of Answered.antt. Assumes nothing.
use Rattle.std.specs.Prelude.{◌≡◌, ◌≢◌, ◌⊎◌, List, [], ◌∷◌, ℕ, suc, ◌%◌, ◌<◌, ◌≤◌, length, take, drop, Ok, Err}
use Rattle.calls_edits.specs.Edits.{edits, third, fourth, Parent, Rests, check, difference}

-- k stands in a list
pub data In (k : ℕ) : List ℕ → Type 0 where
  here : {ks : List ℕ} → In k (k ∷ ks)
  later : {j : ℕ} {ks : List ℕ} → In k ks → In k (j ∷ ks)

-- each number of a list is above the one before it, and all are at least m: each once, in rising number
pub data Rising : ℕ → List ℕ → Type 0 where
  done : {m : ℕ} → Rising m []
  more : {m k : ℕ} {ks : List ℕ} → m ≤ k → Rising (suc k) ks → Rising m (k ∷ ks)

-- the list is exactly the edits that a rests on and b doesn't, each once, in rising number; no other list is (`only_one`, Exactly.antt)
pub record Difference (file : List ℕ) (a b : ℕ) (ks : List ℕ) : Type 0 where
  pub rising : Rising 0 ks
  pub only : (k : ℕ) → In k ks → Rests file a k × (Rests file b k → ⊥)
  pub all : (k : ℕ) → Rests file a k → (Rests file b k → ⊥) → In k ks

-- the checker -----------------------------------------------------------------------------------------------------------------------------

-- the rest of record e is zero, and its parents are smaller than e
pub record Good (file : List ℕ) (e : ℕ) : Type 0 where
  pub rest : (third file e ≡ 0) × (fourth file e ≡ 0)
  pub parents : (p : ℕ) → Parent file e p → p < e

pub record Accepted (file : List ℕ) : Type 0 where
  pub whole : length file % 16 ≡ 0
  pub few : edits file ≤ 512
  pub records : (e : ℕ) → e < edits file → Good file e

-- no cause applies before record e: the length is whole, the edits are few, and every record before e is good. Whether e is good is said by the
-- promises that use it
pub record GoodBefore (file : List ℕ) (e : ℕ) : Type 0 where
  pub whole : length file % 16 ≡ 0
  pub few : edits file ≤ 512
  pub inside : e < edits file
  pub before : (k : ℕ) → k < e → Good file k

-- done exactly for accepted files; else 11, 16 or the number of the first bad record, 10 before 15, and no other number
pub record Checks (file : List ℕ) : Type 0 where
  pub accepted : check file ≡ Ok tt → Accepted file
  pub accepts : Accepted file → check file ≡ Ok tt
  pub cut : length file % 16 ≢ 0 → check file ≡ Err 11
  pub crowded : length file % 16 ≡ 0 → 512 < edits file → check file ≡ Err 16
  pub rest : (e : ℕ) → GoodBefore file e → (third file e ≡ 0 → fourth file e ≢ 0) → check file ≡ Err 10
  pub late : (e p : ℕ) → GoodBefore file e → third file e ≡ 0 → fourth file e ≡ 0 → Parent file e p → e ≤ p → check file ≡ Err 15
  pub numbers : (n : ℕ) → check file ≡ Err n → In n (11 ∷ 16 ∷ 10 ∷ 15 ∷ [])

-- the difference --------------------------------------------------------------------------------------------------------------------------

-- n is the length of the list that is exactly the difference; it stands at the front of the area, and the words after it are as before
pub record Listed (file area : List ℕ) (a b n : ℕ) (after : List ℕ) : Type 0 where
  pub list : List ℕ
  pub exactly : Difference file a b list
  pub count : n ≡ length list
  pub front : take n after ≡ list
  pub rest : drop n after ≡ drop n area
  pub long : length after ≡ length area

-- 11 before all else, 12 directly after; where neither applies a refused file gets check's number, and then a missing edit 4. Any refusal leaves the
-- area, and has one of six numbers; any other reply is the count of a list as above, and there is one exactly where no cause applies
pub record Differs (file area : List ℕ) (a b : ℕ) : Type 0 where
  pub cut : length file % 16 ≢ 0 → difference file area a b ≡ (Err 11, area)
  pub narrow : length file % 16 ≡ 0 → length area < 512 → difference file area a b ≡ (Err 12, area)
  pub same : 512 ≤ length area → (n : ℕ) → check file ≡ Err n → difference file area a b ≡ (Err n, area)
  pub absent : 512 ≤ length area → check file ≡ Ok tt → (edits file ≤ a) ⊎ (edits file ≤ b) → difference file area a b ≡ (Err 4, area)
  pub refused : (n : ℕ) → (difference file area a b).0 ≡ Err n → ((difference file area a b).1 ≡ area) × In n (11 ∷ 12 ∷ 16 ∷ 10 ∷ 15 ∷ 4 ∷ [])
  pub listed : (n : ℕ) → (difference file area a b).0 ≡ Ok n → Listed file area a b n (difference file area a b).1
  pub served : 512 ≤ length area → check file ≡ Ok tt → a < edits file → b < edits file → (n : ℕ) × ((difference file area a b).0 ≡ Ok n)
