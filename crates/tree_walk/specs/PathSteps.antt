-- The steps of a path as the code holds them, in the front of sixteen bytes. Assumes nothing.
use Rattle.std.specs.Prelude.{ℕ, Bool, cond, List, [], take}

-- the first n bytes, or none where the way was broken
abbrev pub steps_by : Bool → ℕ → List ℕ → List ℕ
steps_by whole n xs = cond whole (take n xs) []
