-- Other lengths for an entry, and their way up, summed or not. Assumes nothing.
use Rattle.model.specs.declared.head.Finger.{Finger}
use Rattle.model.specs.declared.way.Broken.{Broken}
use Rattle.model.specs.Numbered.{broken}
use Rattle.std.specs.Prelude.{Ok, Err, Option, Result}
use Rattle.std.proofs.Common.{◌≡◌, ℕ, ◌-◌, Bool, true, false, List, take, sym, refl, ap, ◌∙◌, true≢false, arith}
use Rattle.model.specs.Node.{wrap, start, with_lengths}
use Rattle.model.specs.State.{state, shape_for, node_at, put_node}
use Rattle.model.specs.Climb.{climb_up}
use Rattle.model.specs.Locate.{changing}
use Rattle.model.specs.Place.{change, with_finger, replace}
use Rattle.model.specs.declared.shape.Shape.{Shape}
use Rattle.model.specs.declared.head.Head.{Head}
use Rattle.tree_walk.specs.Raise.{raise_up, whole, raise_climb}
use Rattle.tree_walk.specs.Low.{low_way, low_same}
use Rattle.tree_place.specs.Asked.{asked, asked_way, way_up}

pub replaced : (g : Shape) (k i : ℕ) (new : List ℕ) (h h' : Head) (fin : Option Finger) (ls ls' xs hs : List ℕ)
    → ls' ≡ put_node g k (with_lengths i new (node_at g k ls)) ls → fin ≡ changing k i h.finger → h' ≡ with_finger fin h
    → change 0 (state h' ls' xs hs) k i ≡ replace g (state h ls xs hs) k i new
unfolding replace
replaced g k i new h h' fin ls ls' xs hs el ef eh = rw (eh, ef, el)

-- the way up by what the leaf says of itself: g is the sizes as they were made anew
module _ (g : Shape) (views fan nodes : ℕ) (eg : g ≡ shape_for views fan nodes) (ds : List ℕ) (levels k parent at : ℕ) (ls xs : List ℕ)
    (ep : parent ≡ (node_at g k ls).parent) (ea : at ≡ (node_at g k ls).at) where
  views_of_law : g.stride - 1 ≡ views
  views_of_law = rw eg (omega arith)

  pub way_summed : (e i s : ℕ) (r : Result ℕ Broken × List ℕ) → s ≡ wrap (start e i (node_at g k ls)) → r ≡ low_way (climb_up g e (take (g.stride - 1) ds) levels parent at s xs)
      → r ≡ low_way (way_up (shape_for views fan nodes) e (take views ds) levels k i ls xs)
  way_summed e i s r es er =
      er ∙ low_same g e (take (g.stride - 1) ds) levels parent at s (start e i (node_at g k ls)) xs (omega (arith, es))
      ∙ rw (views_of_law, ep, ea) (ap (λ (h : Shape). low_way (way_up h e (take views ds) levels k i ls xs)) eg)

-- a way up that wasn't summed: t says whether it came to the root
module _ (b t : Bool) (h : b ≡ false) (xs : List ℕ) where
  unsummed_lost : (w : Result ℕ Broken × List ℕ) → ◌≡◌ {A = Bool × List ℕ} (t, xs) (whole w.0, w.1) → t ≡ false → (Err broken, xs) ≡ asked_way b w
  unsummed_lost (Ok n, ys) e q = absurd (true≢false (sym (ap (λ (p : Bool × List ℕ). p.0) e) ∙ q))
  unsummed_lost (Err _, ys) e q = ap (λ (p : Bool × List ℕ). (Err broken, p.1)) e

  unsummed_whole : (w : Result ℕ Broken × List ℕ) → ◌≡◌ {A = Bool × List ℕ} (t, xs) (whole w.0, w.1) → t ≡ true → (Ok 0, xs) ≡ asked_way b w
  unsummed_whole (Ok n, ys) e q = rw h (ap (λ (p : Bool × List ℕ). (Ok 0, p.1)) e)
  unsummed_whole (Err _, ys) e q = absurd (true≢false (sym q ∙ ap (λ (p : Bool × List ℕ). p.0) e))

  module _ (g : Shape) (v : ℕ) (delta : List ℕ) (n k i s : ℕ) (ys : List ℕ) (e : (t, xs) ≡ raise_up g delta n k i ys) where
    low : (w : Result ℕ Broken × List ℕ) → ◌≡◌ {A = Bool × List ℕ} (whole w.0, w.1) (whole (low_way w).0, (low_way w).1)
    low (Ok m, zs) = refl
    low (Err _, zs) = refl

    pub lost_way : t ≡ false → (Err broken, xs) ≡ asked_way b (low_way (climb_up g v delta n k i s ys))
    lost_way = unsummed_lost (low_way (climb_up g v delta n k i s ys)) (e ∙ raise_climb g v delta n k i s ys ∙ low (climb_up g v delta n k i s ys))

    pub whole_way : t ≡ true → (Ok 0, xs) ≡ asked_way b (low_way (climb_up g v delta n k i s ys))
    whole_way = unsummed_whole (low_way (climb_up g v delta n k i s ys)) (e ∙ raise_climb g v delta n k i s ys ∙ low (climb_up g v delta n k i s ys))

-- what a way up says that was asked for or not
module _ (b : Bool) (xs : List ℕ) where
  pub asked_whole : (n : ℕ) (w : Result ℕ Broken × List ℕ) → (Ok n, xs) ≡ asked_way b w → (m : ℕ) × ((Ok m, xs) ≡ w) × (n ≡ asked b m)
  asked_whole n (Ok m, ys) e =
      let z : Ok n ≡ Ok (asked b m) = ap (λ (p : Result ℕ Broken × List ℕ). p.0) e in
      (m, ap (λ (p : Result ℕ Broken × List ℕ). (Ok m, p.1)) e, cc)
  asked_whole n (Err _, ys) e = absurd (true≢false (ap (λ (p : Result ℕ Broken × List ℕ). whole p.0) e))

  pub asked_lost : (w : Result ℕ Broken × List ℕ) → (Err broken, xs) ≡ asked_way b w → (Err broken, xs) ≡ w
  asked_lost (Ok m, ys) e = absurd (true≢false (sym (ap (λ (p : Result ℕ Broken × List ℕ). whole p.0) e)))
  asked_lost (Err _, ys) e = e

pub asked_wrap : (b : Bool) (n : ℕ) → wrap (asked b n) ≡ asked b (wrap n)
asked_wrap true n = refl
asked_wrap false n = refl
