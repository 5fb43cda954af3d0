-- A sum and a way up modulo 2 ^ 32, as positions are stored, and one step of such a climb. Assumes nothing.
use Rattle.model.specs.declared.way.Broken.{Broken}
use Rattle.model.specs.Numbered.{broken}
use Rattle.std.specs.Prelude.{◌≡◌, ℕ, zero, suc, ◌+◌, ◌-◌, ◌%◌, ◌^◌, ◌<◌, ◌≤◌, Bool, true, false, cond, List, Ok, Err, Result}
use Rattle.std.proofs.Math.Path.{refl}
use Rattle.std.proofs.Common.{sym, ap, ◌∙◌, arith}
use Rattle.model.specs.Node.{wrap, start}
use Rattle.model.specs.State.{node_at}
use Rattle.model.specs.Climb.{inside, raised, climb_up}
use Rattle.model.specs.declared.shape.Shape.{Shape}
use Rattle.model_laws.specs.Climb.{climb_end, climb_broken, climb_on}

abbrev pub low_sum : Result ℕ Broken → Result ℕ Broken
low_sum (Ok n) = Ok (wrap n)
low_sum (Err _) = Err broken

-- with the words that the way leaves
abbrev pub low_way : Result ℕ Broken × List ℕ → (Result ℕ Broken) × List ℕ
low_way (w, xs) = (low_sum w, xs)

same_more : (s t a : ℕ) → wrap s ≡ wrap t → wrap (s + a) ≡ wrap (t + a)
same_more s t a e = omega arith

-- what was summed up, with a start that was summed up modulo 2 ^ 32 too
pub low_sum_law : (t s w a : ℕ) → t ≡ (s + w) % 2 ^ 32 → w ≡ wrap a → wrap t ≡ wrap (s + a)
low_sum_law t s w a e f = omega arith

module _ (g : Shape) (v : ℕ) (delta : List ℕ) where
  -- a sum that is the same modulo 2 ^ 32 gives the same climb
  pub low_same : (n k i s t : ℕ) (xs : List ℕ) → wrap s ≡ wrap t → low_way (climb_up g v delta n k i s xs) ≡ low_way (climb_up g v delta n k i t xs)
  unfolding climb_up
  low_same zero k i s t xs e = rw e
  low_same (suc n) k i s t xs e =
      go (inside g k i) _ _
      (low_same n (node_at g k xs).parent (node_at g k xs).at (s + start v i (node_at g k xs)) (t + start v i (node_at g k xs)) (raised g delta k i xs)
      (same_more s t (start v i (node_at g k xs)) e))
    where
      go : (b : Bool) (x y : Result ℕ Broken × List ℕ) → low_way x ≡ low_way y → low_way (cond b x ((Err broken), xs)) ≡ low_way (cond b y ((Err broken), xs))
      go true x y e = e
      go false x y e = refl

  -- one step
  module _ (k i s : ℕ) (xs : List ℕ) where
    pub low_end : (n : ℕ) → n ≤ 0 → s ≤ 4294967295 → (Ok s, xs) ≡ low_way (climb_up g v delta n k i s xs)
    low_end n h f =
        let e : wrap s ≡ s = omega arith in
        rw (climb_end g v delta k i s xs n h, e)

    pub low_broken : (n : ℕ) → 0 < n → inside g k i ≡ false → ((Err broken), xs) ≡ low_way (climb_up g v delta n k i s xs)
    low_broken n h e = rw (climb_broken g v delta k i s xs n h e)

    pub low_on : (n : ℕ) → 0 < n → inside g k i ≡ true → (t p a : ℕ) (ys : List ℕ) → wrap t ≡ wrap (s + start v i (node_at g k xs)) → p ≡ (node_at g k xs).parent
        → a ≡ (node_at g k xs).at → ys ≡ raised g delta k i xs → low_way (climb_up g v delta (n - 1) p a t ys) ≡ low_way (climb_up g v delta n k i s xs)
    low_on n h e t p a ys et ep ea ey =
        rw (ep, ea, ey)
        (low_same (n - 1) (node_at g k xs).parent (node_at g k xs).at t (s + start v i (node_at g k xs)) (raised g delta k i xs) et
        ∙ ap low_way (sym (climb_on g v delta k i s xs n h e)))
