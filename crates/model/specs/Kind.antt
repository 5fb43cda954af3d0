-- The kind of a tree: a slot is a child and as many lengths as the kind has views. Assumes nothing.
use Rattle.std.specs.Prelude.{ℕ, suc, Bool, true, false, ◌&&◌, not, List, ltb, get_or}
use Rattle.model.specs.Lists.{some, range}
use Rattle.model.specs.declared.shape.Kind.{Kind}

-- the words of a slot
abbrev pub stride : Kind → ℕ
stride K = suc K.views

abbrev pub views_of : Kind → List ℕ
views_of K = range 0 K.views

-- the view that every kind has, and in which a lookup always gives the entry's position too
abbrev pub prepare : ℕ
prepare = 0

-- so many lengths, positions answered in that view, and whether the first two lengths are a lowest and a highest one
abbrev pub kind_of : ℕ → ℕ → Bool → Kind
kind_of views effect ordered = record { views = views; effect = effect; ordered = ordered }

abbrev pub kind : ℕ → ℕ → Kind
kind views effect = kind_of views effect false

-- the full tree: prepare is view 0, effect view 1, and view 2 counts line ends
abbrev pub base : Kind
base = kind 3 1

-- the planning tree: view 0 has the lowest lengths and view 1 the highest, in which an insert answers
abbrev pub planning : Kind
planning = kind_of 2 1 true

-- the reading copy: the effect length alone
abbrev pub reading : Kind
reading = kind 1 0

-- more line ends than the 65,535 that an entry may have; a kind without a third view has none
abbrev pub too_many_lines : Kind → List ℕ → Bool
too_many_lines K l = ltb 2 K.views && ltb 65535 (get_or l 2 0)

-- zero in every length
abbrev pub hollow : Kind → List ℕ → Bool
hollow K l = not (some (λ v. ltb 0 (get_or l v 0)) (views_of K))

-- a lowest above a highest, in a kind that has them
abbrev pub crossed : Kind → List ℕ → Bool
crossed K l = K.ordered && ltb (get_or l 1 0) (get_or l 0 0)
