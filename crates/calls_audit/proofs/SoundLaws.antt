-- The test of the whole tree, by what its parts answer. Assumes nothing.
use Rattle.model.specs.declared.head.Finger.{Finger}
use Rattle.model.specs.Numbered.{Numbered}
use Rattle.std.specs.Prelude.{Ok, Err, Some, None, Option, true, false}
use mathlib.Core.Path.{◌≡◌, refl, sym, ap, ◌∙◌}
use mathlib.Core.Bool.{Bool, cond, ◌&&◌}
use mathlib.Core.List.{List, []}
use Prim.Native.Nat.{ℕ, suc, ◌+◌, ◌-◌, ◌<◌}
use native.Mathlib.Omega.{arith}
use lib.Dec.{leb, eqb}
use Rattle.model.specs.Lists.{sum_by, range}
use Rattle.model.specs.Node.{total, used}
use Rattle.model.specs.State.{State, state, node_at, shape}
use Rattle.model.specs.Refuse.{shape_of}
use Rattle.model.specs.Audit.{every, is_inner, is_leaf, is_held_finger, is_sound, audit}
use Rattle.model.specs.declared.shape.Kind.{Kind}
use Rattle.model.specs.declared.shape.Shape.{Shape}
use Rattle.model.specs.declared.head.Head.{Head}
use Rattle.tree_open.specs.Open.{opened_by}
use Rattle.tree_open.proofs.Causes.{good_shape, call_refused, call_good}
use Rattle.tree_open.proofs.OpenLaws.{areas_of}
use Rattle.calls_audit.specs.Counts.{counts_by}
use Rattle.calls_audit.proofs.Every.{every_same}
use Rattle.calls_audit.proofs.InnerLaws.{inner_by_law}
use Rattle.calls_audit.proofs.TreeLaws.{finger_by_law}

-- homes play no part in the tests of inner nodes and finger
module _ (K : Kind) (h : Head) (ls xs hs : List ℕ) where
  inner_homes : (k : ℕ) → is_inner K (state h ls xs []) k ≡ is_inner K (state h ls xs hs) k
  inner_homes k = sym (inner_by_law K h ls xs [] (shape_of K h) k refl) ∙ inner_by_law K h ls xs hs (shape_of K h) k refl

  finger_homes : (f : Option Finger) → is_held_finger K (state h ls xs []) f ≡ is_held_finger K (state h ls xs hs) f
  finger_homes None = refl
  finger_homes (Some f) = finger_by_law K h ls xs [] f (shape_of K h) refl ∙ sym (finger_by_law K h ls xs hs f (shape_of K h) refl)

  abbrev t : State
  t = state h ls xs hs

  abbrev lens_part : Shape → ℕ
  lens_part g = sum_by (λ k. (node_at g k ls).len) (range 0 h.leaves)

  abbrev totals_part : Shape → Bool
  totals_part g = every (λ v. leb (total v (used (node_at g h.root.0 xs))) 4294967295) 0 (g.stride - 1)

  abbrev sound_by : Shape → Bool
  sound_by g =
      counts_by h g && every (is_inner K (state h ls xs [])) 0 h.inners && every (is_leaf K t) 0 h.leaves && eqb (lens_part g) h.entries && totals_part g
      && is_held_finger K (state h ls xs []) h.finger

  whole : sound_by (shape_of K h) ≡ is_sound K t
  unfolding is_sound
  whole =
      let views : suc K.views - 1 ≡ K.views = omega arith in
      let inners = every_same (is_inner K (state h ls xs [])) (is_inner K t) inner_homes 0 h.inners in
      rw (views, inners, finger_homes h.finger)

  -- the test by the sizes g, homes left out where they play no part
  pub sound_by_law : (g : Shape) → g ≡ shape_of K h → sound_by g ≡ is_sound K t
  sound_by_law g e = ap sound_by e ∙ whole

-- a view of the tree is a column of every slot
pub view_wide : (g : Shape) (views fan limit v : ℕ) → g ≡ shape (suc views) fan limit → v < views → v + 1 < g.stride
view_wide g views fan limit v e h = rw (ap (λ (x : Shape). x.stride) e) (omega (arith, h))

-- what audit answers
module _ (K : Kind) (s : State) (o : Numbered Shape) (e : o ≡ opened_by (areas_of K s) (shape_of K s.head)) where
  abbrev answer : Bool → Numbered Bool
  answer b = cond b (Ok true) (Ok false)

  pub audit_refused : (n : ℕ) → o ≡ Err n → Err n ≡ audit K s
  unfolding audit
  audit_refused n d = call_refused Err (λ (g : Shape). answer (is_sound K s)) _ _ o e n d

  answered : (b : Bool) → answer b ≡ Ok b
  answered true = refl
  answered false = refl

  pub audit_good : (g : Shape) → o ≡ Ok g → (b : Bool) → (g ≡ shape_of K s.head → b ≡ is_sound K s) → Ok b ≡ audit K s
  unfolding audit
  audit_good g d b eb =
      let same : g ≡ shape_of K s.head = sym (good_shape (areas_of K s) _ g (sym e ∙ d)) in
      sym (answered b) ∙ call_good Err (λ (x : Shape). answer (is_sound K s)) _ _ o e g d _ (ap answer (eb same))
