-- The sums over all leaves, a total, and the test of the finger, by what its parts answer. Assumes nothing.
use Rattle.model.specs.declared.way.Broken.{Broken}
use Rattle.std.specs.Prelude.{Result}
use mathlib.Core.Path.{◌≡◌, refl, sym, ap, ◌∙◌}
use mathlib.Core.Bool.{Bool, true, false, ◌&&◌}
use mathlib.Core.List.{List}
use Prim.Native.Nat.{ℕ, zero, suc, ◌+◌}
use native.Mathlib.Omega.{arith}
use lib.Dec.{ltb, leb, eqb}
use Rattle.std.specs.List.{range_with_len, sum_by as std_sum_by}
use Rattle.std.proofs.lemmas.List.Sums.{sum_by-cons}
use Rattle.model.specs.Lists.{sum_by, range}
use Rattle.model.specs.Node.{Node, total, used, start}
use Rattle.model.specs.State.{state, node_at}
use Rattle.model.specs.Refuse.{shape_of}
use Rattle.model.specs.Climb.{rank_up}
use Rattle.model.specs.Audit.{is_sum, is_finger}
use Rattle.model.specs.declared.shape.Kind.{Kind}
use Rattle.model.specs.declared.shape.Shape.{Shape}
use Rattle.model.specs.declared.head.Head.{Head}
use Rattle.model.specs.declared.head.Finger.{Finger}
use Rattle.calls_audit.specs.Part.{part_by, beside_by}

-- the sum over a range is the definition's
pub sum_range : (f : ℕ → ℕ) (a n : ℕ) → std_sum_by f (range_with_len a n) ≡ sum_by f (range a n)
unfolding sum_by range
sum_range f a zero = refl
sum_range f a (suc n) =
    let next : a + 1 ≡ suc a = omega arith in
    sum_by-cons f a (range_with_len (a + 1) n) ∙ ap (λ (s : ℕ). f a + s) (ap (λ (k : ℕ). std_sum_by f (range_with_len k n)) next ∙ sum_range f (suc a) n)

-- the total of node n in view v is a word
abbrev pub fits : Node → ℕ → Bool
fits n v = leb (total v (used n)) 4294967295

-- the finger: its sums in the order of the definition, and view by view
by_views : (a d e f g h i : Bool) → (a && d && e && f && g && h && i) ≡ (a && (d && f) && ((e && g) && (h && i)))
by_views a d e f g h i = go a d e f g h i
  where
    go : (a d e f g h i : Bool) → (a && d && e && f && g && h && i) ≡ (a && (d && f) && ((e && g) && (h && i)))
    go false d e f g h i = refl
    go true false e f g h i = refl
    go true true false false g h i = refl
    go true true false true g h i = refl
    go true true true false g h i = refl
    go true true true true false h i = refl
    go true true true true true false i = refl
    go true true true true true true i = refl

module _ (K : Kind) (h : Head) (ls xs hs : List ℕ) (f : Finger) where
  abbrev rank_in : Shape → ℕ → Result ℕ Broken
  rank_in g v = let n = node_at g f.leaf ls in rank_up g v h.levels n.parent n.at 0 xs

  abbrev own_part : Shape → Bool
  own_part g = part_by g h.levels f.view (node_at g f.leaf ls) f.slot f.start f.within xs

  abbrev place_part : Shape → Bool
  place_part g = ltb f.view K.views && ltb f.leaf h.leaves && ltb f.slot (node_at g f.leaf ls).len

  abbrev finger_by : Shape → Bool
  finger_by g = place_part g && own_part g && beside_by g h.levels K.effect f ls xs

  whole : is_finger K (state h ls xs hs) f ≡ finger_by (shape_of K h)
  unfolding is_finger
  whole =
      let g : Shape = shape_of K h in
      let n : Node = node_at g f.leaf ls in
      by_views (place_part g) (is_sum f.start (rank_in g f.view)) (is_sum f.effect (rank_in g K.effect)) (eqb f.within (start f.view f.slot n))
      (eqb f.effect_within (start K.effect f.slot n)) (is_sum f.prepare (rank_in g 0)) (eqb f.prepare_within (start 0 f.slot n))

  -- the test by the sizes g
  pub finger_by_law : (g : Shape) → g ≡ shape_of K h → is_finger K (state h ls xs hs) f ≡ finger_by g
  finger_by_law g e = whole ∙ ap finger_by (sym e)
