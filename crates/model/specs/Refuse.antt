-- The causes of a refusal on a tree (document 01, "When a call cannot be done"), in the order in which a call tests them. Assumes nothing.
use Rattle.std.specs.Prelude.{Bool, ◌&&◌, ◌||◌, not, ℕ, ◌+◌, ◌-◌, ◌*◌, length, get_or, ltb, leb, eqb}
use mathlib.Core.List.{List, [], ◌∷◌, ◌++◌, zip_with}
use Rattle.model.specs.Lists.{Cause, cause, some}
use Rattle.model.specs.Kind.{stride, views_of, too_many_lines, hollow, crossed}
use Rattle.model.specs.declared.shape.Kind.{Kind}
use Rattle.model.specs.Node.{total, used}
use Rattle.model.specs.State.{State, shape, node_at}
use Rattle.model.specs.declared.shape.Shape.{Shape}
use Rattle.model.specs.declared.head.Head.{Head}
use Rattle.model.specs.declared.head.Cursor.{Cursor}

abbrev pub shape_of : Kind → Head → Shape
shape_of K h = shape (stride K) h.fan h.limit

-- 10, before all else: a line count above 65,535
abbrev pub many_lines : Kind → List ℕ → Cause
many_lines K l = cause 10 (too_many_lines K l)

-- 1: fan not 4 to 32, or limit not 1 to 65,536
abbrev pub bad_size : ℕ → ℕ → Cause
bad_size fan limit = cause 1 (ltb fan 4 || ltb 32 fan || ltb limit 1 || ltb 65536 limit)

-- 2: an area shorter than the limit needs
abbrev pub too_short : Shape → ℕ → List ℕ → List ℕ → List ℕ → Cause
too_short g limit ls xs hs = cause 2 (ltb (length ls) (g.nodes * g.size) || ltb (length xs) (g.nodes * g.size) || ltb (length hs) limit)

-- 9, met by every call that reads links: the root or a count leads outside the areas, or no leaf can be that deep
abbrev pub astray : Shape → Head → Cause
astray g h =
    cause 9 (leb g.nodes h.root.0 || ltb h.levels 1 || ltb 15 h.levels || ltb g.nodes h.leaves || ltb g.nodes h.inners || ltb h.limit h.entries)

unfoldable pub opening : Kind → State → List Cause
opening K s =
    let h = s.head in
    bad_size h.fan h.limit ∷ too_short (shape_of K h) h.limit s.leaves s.inners s.homes ∷ astray (shape_of K h) h ∷ []

-- a cursor is current exactly when it bears the present stamp, the leaf is in use and the slot is below its len
abbrev pub current : Kind → State → Cursor → Bool
current K s c = eqb c.stamp s.head.stamp && ltb c.leaf.0 s.head.leaves && ltb c.slot (node_at (shape_of K s.head) c.leaf.0 s.leaves).len

-- 3: a wrong stamp; 13: a leaf not in use; 14: a slot at or past its len
abbrev pub stale : Kind → State → Cursor → List Cause
stale K s c =
    cause 3 (not (eqb c.stamp s.head.stamp))
    ∷ cause 13 (leb s.head.leaves c.leaf.0)
    ∷ cause 14 (leb (node_at (shape_of K s.head) c.leaf.0 s.leaves).len c.slot)
    ∷ []

-- 9: the leaf of a current cursor says that it uses more slots than it has
abbrev pub overfull : Kind → State → Cursor → Cause
overfull K s c = cause 9 (ltb s.head.fan (node_at (shape_of K s.head) c.leaf.0 s.leaves).len)

abbrev pub at_cursor : Kind → State → Cursor → List Cause
at_cursor K s c = stale K s c ++ overfull K s c ∷ []

-- 4: id not below the number of entries
abbrev pub no_such_id : State → ℕ → Cause
no_such_id s i = cause 4 (leb s.head.entries i)

-- 6: split moves more than the entry has, in any view
abbrev pub too_much : Kind → List ℕ → List ℕ → Cause
too_much K given ls = cause 6 (some (λ v. ltb (get_or ls v 0) (get_or given v 0)) (views_of K))

-- 17: the moved part, or the part left behind, has zero in every length
abbrev pub hollow_part : Kind → List ℕ → List ℕ → Cause
hollow_part K given ls = cause 17 (hollow K given || hollow K (zip_with ◌-◌ ls given))

-- 20: a lowest above a highest, given, or given or left by a split
abbrev pub crossed_bounds : Kind → List ℕ → Cause
crossed_bounds K l = cause 20 (crossed K l)

abbrev pub crossed_parts : Kind → List ℕ → List ℕ → Cause
crossed_parts K given ls = cause 20 (crossed K given || crossed K (zip_with ◌-◌ ls given))

-- the total in view v, as the root's slots have it
abbrev pub total_of : Kind → State → ℕ → ℕ
total_of K s v = total v (used (node_at (shape_of K s.head) s.head.root.0 s.inners))

-- 7: a view's total would pass 4,294,967,295, with old lengths replaced by new ones
abbrev pub past : Kind → State → List ℕ → List ℕ → Cause
past K s old new = cause 7 (some (λ v. ltb (4294967295 + get_or old v 0) (total_of K s v + get_or new v 0)) (views_of K))

-- 8: one entry more, and the tree holds its limit
abbrev pub full : State → Cause
full s = cause 8 (leb s.head.limit s.head.entries)
