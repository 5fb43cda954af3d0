-- What the program does with the bytes that a read gives it (document 01, "Door and program"). Assumes nothing.
use Rattle.std.specs.Prelude.{◌≡◌, cond, List, ℕ, ◌+◌, ◌<◌, ◌≤◌, length, take, eqb, Option, Some, None}
use Rattle.model.specs.State.{State, state}
use Rattle.model.specs.declared.head.Head.{Head}
use Rattle.list_stream.specs.Text.{put}
use Rattle.list_stream.specs.Shown.{Fed, fed_of, feed, tail}

-- n bytes read behind the kept ones; none is the end of the input
unfoldable pub answered : State → List ℕ → ℕ → ℕ → List ℕ → Fed
answered s block kept n out = cond (eqb n 0) (fed_of s (put out 0 (tail kept)).0 (put out 0 (tail kept)).1 kept block) (feed s block (kept + n) out)

-- a turn after which the input goes on: n bytes were read behind the kept ones, and all that is left is what they are answered
abbrev pub Turned : Option (Head × ℕ) → State → List ℕ → ℕ → List ℕ → List ℕ → List ℕ → List ℕ → List ℕ → List ℕ → Type 0
Turned (Some (head, rest)) s block kept out ls xs hs b o =
    (given : List ℕ) × (n : ℕ) × (end : ℕ) × (0 < n) × (kept + n ≤ length given) × (take kept given ≡ take kept block) × (fed_of (state head ls xs hs) end o rest b ≡ answered s given kept n out)
Turned None s block kept out ls xs hs b o = Unit {0}
