-- The slots that print meets from a leaf on: the leaf's own, then those from the next leaf on. Assumes nothing.
use Rattle.model.specs.declared.way.Broken.{Broken}
use Rattle.model.specs.Numbered.{broken}
use Rattle.std.specs.Prelude.{◌≡◌, Bool, ◌&&◌, get_or, take, drop, Ok, Err, Some, None, Option, Result}
use Rattle.std.proofs.Math.Path.{refl}
use Rattle.std.proofs.Common.{sym, ap, ◌∙◌, add-one, drop-cons}
use Rattle.std.proofs.Math.Bool.{true, false, cond}
use mathlib.Core.List.{List, [], ◌∷◌, ◌++◌, append-nil}
use Prim.Native.Nat.{ℕ, zero, suc, ◌+◌, ◌-◌, ◌<◌, ◌≤◌}
use native.Mathlib.Omega.{arith}
use Rattle.std.proofs.Math.Dec.{ltb, leb}
use Rattle.std.proofs.Math.ListN.{length}
use borrow.Author.Tests.{lt-ltb, le-ltb, le-leb, lt-leb, ltb-true, ltb-false}
use Rattle.model.specs.State.{node_at}
use Rattle.model.specs.Node.{child}
use Rattle.model.specs.Climb.{leaf_no, first_down, next_up, inside}
use Rattle.model.specs.Print.{met_from}
use Rattle.model.specs.declared.shape.Shape.{Shape}
use Rattle.model.specs.declared.number.LeafNo.{LeafNo}
use Rattle.model_laws.specs.AreaRead.{slots_are}

-- the leaf that a walk comes to is in the area
abbrev pub Within : Shape → Result (Option LeafNo) Broken → Type 0
Within g (Ok (Some k)) = k.0 < g.nodes
Within g (Ok None) = Unit {0}
Within g (Err _) = Unit {0}

module _ (g : Shape) (xs : List ℕ) where
  pub first_within : (n k : ℕ) → Within g (first_down g n k xs)
  unfolding first_down
  first_within zero k = go (ltb k g.nodes) refl
    where
      go : (b : Bool) → ltb k g.nodes ≡ b → Within g (cond b (Ok (Some (leaf_no k))) (Err broken))
      go true e = ltb-true k g.nodes e
      go false e = tt
  first_within (suc n) k = go (ltb k g.nodes) (first_within n (child (get_or (node_at g k xs).slots 0 [])))
    where
      go : (b : Bool) → Within g (first_down g n (child (get_or (node_at g k xs).slots 0 [])) xs) → Within g (cond b (first_down g n (child (get_or (node_at g k xs).slots 0 [])) xs) (Err broken))
      go true h = h
      go false h = tt

  either : (a b : Bool) (l m : Result (Option LeafNo) Broken) → Within g l → Within g m → Within g (cond a (cond b l m) (Err broken))
  either true true l m h k = h
  either true false l m h k = k
  either false b l m h k = tt

  pub next_within : (n d k i : ℕ) → Within g (next_up g n d k i xs)
  unfolding next_up
  next_within zero d k i = tt
  next_within (suc n) d k i =
      let m = node_at g k xs in
      either (inside g k i && ltb i m.len && leb m.len g.fan) (ltb (i + 1) m.len) _ _ (first_within d (child (get_or m.slots (i + 1) []))) (next_within n (d + 1) m.parent m.at)

module _ (g : Shape) (levels : ℕ) (ls xs : List ℕ) where
  abbrev pub met : ℕ → Result (Option LeafNo) Broken → List (List ℕ)
  met n l = met_from g levels ls xs n l 0

  -- no more than are asked for
  pub met_few : (n : ℕ) (l : Result (Option LeafNo) Broken) (i : ℕ) → length (met_from g levels ls xs n l i) ≤ n
  unfolding met_from
  met_few zero l i = omega arith
  met_few (suc n) (Ok None) i = omega arith
  met_few (suc n) (Err _) i = omega arith
  met_few (suc n) (Ok (Some k)) i =
      let m = node_at g k.0 ls in
      go (ltb i m.len && leb m.len g.fan) (ltb (i + 1) m.len) (get_or m.slots i []) _ _ (met_few n (Ok (Some k)) (i + 1)) (met_few n (next_up g levels 0 m.parent m.at xs) 0)
    where
      go : (a b : Bool) (x : List ℕ) (ys zs : List (List ℕ)) → length ys ≤ n → length zs ≤ n → length (cond a (x ∷ cond b ys zs) []) ≤ suc n
      go true true x ys zs h k = omega arith
      go true false x ys zs h k = omega arith
      go false b x ys zs h k = omega arith

  pub met_none : (n : ℕ) (l : Result (Option LeafNo) Broken) (i : ℕ) → n ≤ 0 → met_from g levels ls xs n l i ≡ []
  unfolding met_from
  met_none zero l i h = refl
  met_none (suc n) l i h = absurd (omega arith)

  pub met_nothing : (n i : ℕ) (l : Result (Option LeafNo) Broken) → l ≡ Ok None → met_from g levels ls xs n l i ≡ []
  unfolding met_from
  met_nothing zero i l e = refl
  met_nothing (suc n) i l e = rw e

  pub met_broken : (n i : ℕ) (l : Result (Option LeafNo) Broken) → l ≡ Err broken → met_from g levels ls xs n l i ≡ []
  unfolding met_from
  met_broken zero i l e = refl
  met_broken (suc n) i l e = rw e

  module _ (k : LeafNo) (len : ℕ) (el : len ≡ (node_at g k.0 ls).len) where
    -- a leaf that says no slot, or more than it has
    pub met_empty : (n : ℕ) → len ≡ 0 → met n (Ok (Some k)) ≡ []
    unfolding met_from
    met_empty zero h = refl
    met_empty (suc n) h = rw (← el, le-ltb 0 len (omega arith))

    pub met_over : (n : ℕ) → g.fan < len → met n (Ok (Some k)) ≡ []
    unfolding met_from
    met_over zero h = refl
    met_over (suc n) h = rw (← el, lt-leb len g.fan h) (go _ (ltb 0 len))
      where
        go : (ys : List (List ℕ)) (b : Bool) → cond (b && false) ys [] ≡ []
        go ys true = refl
        go ys false = refl

    module _ (le : len ≤ g.fan) where
      abbrev slots : List (List ℕ)
      slots = (node_at g k.0 ls).slots

      abbrev onward : Result (Option LeafNo) Broken
      onward = next_up g levels 0 (node_at g k.0 ls).parent (node_at g k.0 ls).at xs

      here : (i : ℕ) → i < len → drop i slots ≡ get_or slots i [] ∷ drop (i + 1) slots
      here i h = rw add-one (drop-cons slots i [] (omega (arith, slots_are g k.0 ls)))

      step : (n i : ℕ) → i < len → met_from g levels ls xs (suc n) (Ok (Some k)) i ≡ get_or slots i [] ∷ cond (ltb (i + 1) len) (met_from g levels ls xs n (Ok (Some k)) (i + 1)) (met n onward)
      unfolding met_from
      step n i h = rw (← el, lt-ltb i len h, le-leb len g.fan le)

      inside_leaf : (n i : ℕ) → i + 1 < len → met_from g levels ls xs (suc n) (Ok (Some k)) i ≡ get_or slots i [] ∷ met_from g levels ls xs n (Ok (Some k)) (i + 1)
      inside_leaf n i h = step n i (omega arith) ∙ rw (lt-ltb (i + 1) len h)

      -- within the leaf
      some : (n i : ℕ) → i + n ≤ len → met_from g levels ls xs n (Ok (Some k)) i ≡ take n (drop i slots)
      some zero i h = met_none 0 (Ok (Some k)) i (omega arith)
      some (suc zero) i h = step 0 i (omega arith) ∙ rw (here i (omega arith)) (ap (λ (ys : List (List ℕ)). get_or slots i [] ∷ ys) (none (ltb (i + 1) len)))
        where
          none : (b : Bool) → cond b (met_from g levels ls xs 0 (Ok (Some k)) (i + 1)) (met 0 onward) ≡ []
          none true = met_none 0 (Ok (Some k)) (i + 1) (omega arith)
          none false = met_none 0 onward 0 (omega arith)
      some (suc (suc n)) i h = inside_leaf (suc n) i (omega arith) ∙ rw (here i (omega arith)) (ap (λ (ys : List (List ℕ)). get_or slots i [] ∷ ys) (some (suc n) (i + 1) (omega arith)))

      -- to its end and on
      whole : (r m i n : ℕ) → suc m ≡ n + suc r → i + suc r ≡ len → met_from g levels ls xs (suc m) (Ok (Some k)) i ≡ take (suc r) (drop i slots) ++ met n onward
      whole zero m i n e h =
          let same : m ≡ n = omega arith in
          step m i (omega arith) ∙ rw (here i (omega arith), le-ltb (i + 1) len (omega arith)) (ap (λ (j : ℕ). get_or slots i [] ∷ met j onward) same)
      whole (suc r) zero i n e h = absurd (omega arith)
      whole (suc r) (suc m) i n e h =
          inside_leaf (suc m) i (omega arith) ∙ rw (here i (omega arith)) (ap (λ (ys : List (List ℕ)). get_or slots i [] ∷ ys) (whole r m (i + 1) n (omega arith) (omega arith)))

      -- the first c of its slots, where c is the least of its slots and those asked for
      pub met_leaf : (n c : ℕ) → 0 < len → c ≡ cond (ltb len n) len n → met n (Ok (Some k)) ≡ take c slots ++ met (n - c) onward
      met_leaf n c h e = go (ltb len n) refl
        where
          go : (b : Bool) → ltb len n ≡ b → met n (Ok (Some k)) ≡ take c slots ++ met (n - c) onward
          go true q =
              let l : len < n = ltb-true len n q in
              let el : c ≡ len = e ∙ rw q in
              let one : suc (len - 1) ≡ len = omega arith in
              let all : suc (n - 1) ≡ n = omega arith in
              rw el (ap (λ (m : ℕ). met m (Ok (Some k))) (sym all) ∙ whole (len - 1) (n - 1) 0 (n - len) (omega arith) (omega arith) ∙ ap (λ (m : ℕ). take m slots ++ met (n - len) onward) one)
          go false q =
              let l : n ≤ len = ltb-false len n q in
              let el : c ≡ n = e ∙ rw q in
              let none : n - n ≡ 0 = omega arith in
              rw (el, met_none (n - n) onward 0 (omega arith), append-nil) (some n 0 (omega arith))
