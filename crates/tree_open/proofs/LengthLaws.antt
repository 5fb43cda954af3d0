-- The lengths of a slot, and a test of each of them in the views that a slot has. Assumes nothing.
use mathlib.Core.Path.{◌≡◌, refl, sym, ap, ◌∙◌}
use mathlib.Core.Bool.{Bool, true, false, cond, ◌||◌, not}
use mathlib.Core.List.{List, [], ◌∷◌, zip_with}
use Prim.Native.Nat.{ℕ, zero, suc, ◌+◌, ◌-◌, ◌*◌, ◌<◌, ◌≤◌}
use native.Mathlib.Omega.{arith}
use lib.ListN.{length, get_or, set, take, replicate, get_or-replicate}
use lib.Seq.{take_all}
use lib.Dec.{ltb}
use borrow.Author.Tests.{ltb-true, ltb-false, lt-ltb, le-ltb}
use Rattle.model.specs.Lists.{some, part, range}
use Rattle.model.specs.Kind.{kind_of, crossed}
use Rattle.model.specs.Length.{lengths_in}
use Rattle.model.specs.Node.{slots_from, node_of, lengths, length_in, used}
use Rattle.model.specs.State.{node_at}
use Rattle.model.specs.Refuse.{crossed_parts}
use Rattle.model.specs.declared.shape.Shape.{Shape}
use Rattle.model_laws.specs.Lists.{row_end, some_views}
use Rattle.model_laws.specs.Words.{length_part, get_d_part}
use Rattle.model_laws.specs.Lens.{by_test}
use Rattle.model_laws.specs.Slots.{slots_at, slots_length, slots_take}
use Rattle.model_laws.specs.Areas.{length_node}
use Rattle.model_laws.specs.AreaRead.{node_end}
use Rattle.tree_area.specs.Area.{AreaHolds}
use Rattle.tree_open.specs.Lengths.{more_in, hollow_in}

-- the lengths of a slot of two, three, four words
behind_one : (x : List ℕ) → length x ≡ 2 → lengths x ≡ get_or x 1 0 ∷ []
behind_one [] e = absurd (omega arith)
behind_one (x ∷ []) e = absurd (omega arith)
behind_one (x ∷ y ∷ []) e = refl
behind_one (x ∷ y ∷ z ∷ xs) e = absurd (omega arith)

behind_two : (x : List ℕ) → length x ≡ 3 → lengths x ≡ get_or x 1 0 ∷ get_or x 2 0 ∷ []
behind_two [] e = absurd (omega arith)
behind_two (x ∷ []) e = absurd (omega arith)
behind_two (x ∷ y ∷ []) e = absurd (omega arith)
behind_two (x ∷ y ∷ z ∷ []) e = refl
behind_two (x ∷ y ∷ z ∷ w ∷ xs) e = absurd (omega arith)

behind_three : (x : List ℕ) → length x ≡ 4 → lengths x ≡ get_or x 1 0 ∷ get_or x 2 0 ∷ get_or x 3 0 ∷ []
behind_three [] e = absurd (omega arith)
behind_three (x ∷ []) e = absurd (omega arith)
behind_three (x ∷ y ∷ []) e = absurd (omega arith)
behind_three (x ∷ y ∷ z ∷ []) e = absurd (omega arith)
behind_three (x ∷ y ∷ z ∷ w ∷ []) e = refl
behind_three (x ∷ y ∷ z ∷ w ∷ v ∷ xs) e = absurd (omega arith)

-- the lengths of a slot put behind the first of four words, the second and the third where there are such: y after the second, z after the third
module _ (slot : List ℕ) (p : ℕ) (first : p ≡ length_in 0 slot) where
  put_wide : (s c₀ c₁ c₂ c₃ : ℕ) (y z : List ℕ) → length slot ≡ s → 2 ≤ s → s ≤ 4 → (2 < s → y ≡ c₀ ∷ p ∷ length_in 1 slot ∷ c₃ ∷ []) → (s ≤ 2 → y ≡ c₀ ∷ p ∷ c₂ ∷ c₃ ∷ [])
      → (3 < s → z ≡ set y 3 (length_in 2 slot)) → (s ≤ 3 → z ≡ y) → lengths_in (s - 1) z ≡ lengths slot
  put_wide zero c₀ c₁ c₂ c₃ y z e h g y₁ y₂ z₁ z₂ = absurd (omega arith)
  put_wide (suc zero) c₀ c₁ c₂ c₃ y z e h g y₁ y₂ z₁ z₂ = absurd (omega arith)
  put_wide (suc (suc zero)) c₀ c₁ c₂ c₃ y z e h g y₁ y₂ z₁ z₂ = rw (z₂ (omega arith), y₂ (omega arith), first) (sym (behind_one slot e))
  put_wide (suc (suc (suc zero))) c₀ c₁ c₂ c₃ y z e h g y₁ y₂ z₁ z₂ = rw (z₂ (omega arith), y₁ (omega arith), first) (sym (behind_two slot e))
  put_wide (suc (suc (suc (suc zero)))) c₀ c₁ c₂ c₃ y z e h g y₁ y₂ z₁ z₂ = rw (z₁ (omega arith), y₁ (omega arith), first) (sym (behind_three slot e))
  put_wide (suc (suc (suc (suc (suc s))))) c₀ c₁ c₂ c₃ y z e h g y₁ y₂ z₁ z₂ = absurd (omega arith)

  put_lengths : (s : ℕ) (x y z : List ℕ) → length x ≡ 4 → length slot ≡ s → 2 ≤ s → s ≤ 4 → (2 < s → y ≡ set (set x 1 p) 2 (length_in 1 slot)) → (s ≤ 2 → y ≡ set x 1 p)
      → (3 < s → z ≡ set y 3 (length_in 2 slot)) → (s ≤ 3 → z ≡ y) → lengths_in (s - 1) z ≡ lengths slot
  put_lengths s [] y z f e h g y₁ y₂ z₁ z₂ = absurd (omega arith)
  put_lengths s (a ∷ []) y z f e h g y₁ y₂ z₁ z₂ = absurd (omega arith)
  put_lengths s (a ∷ b ∷ []) y z f e h g y₁ y₂ z₁ z₂ = absurd (omega arith)
  put_lengths s (a ∷ b ∷ c ∷ []) y z f e h g y₁ y₂ z₁ z₂ = absurd (omega arith)
  put_lengths s (a ∷ b ∷ c ∷ d ∷ []) y z f e h g y₁ y₂ z₁ z₂ = put_wide s a b c d y z e h g y₁ y₂ z₁ z₂
  put_lengths s (a ∷ b ∷ c ∷ d ∷ u ∷ x) y z f e h g y₁ y₂ z₁ z₂ = absurd (omega arith)

-- the lengths that are read are all that slot i of node k has
module _ (g : Shape) (xs : List ℕ) (k i : ℕ) (a : AreaHolds g (length xs)) (hk : k < g.nodes) (hi : i < g.fan) where
  width : length (get_or (node_at g k xs).slots i []) ≡ g.stride
  unfolding node_of
  width =
      let ws : List ℕ = part (k * g.size) g.size xs in
      let l : length ws ≡ 3 + g.fan * g.stride = length_node g k xs a.shaped.words (node_end g k (length xs) hk a.room) in
      ap length (slots_at g.stride g.fan i 3 ws hi) ∙ length_part (3 + i * g.stride) g.stride ws (omega (arith, l, row_end i g.fan g.stride hi))

  pub lengths_read : (x y z : List ℕ) (p : ℕ) → length x ≡ 4 → p ≡ length_in 0 (get_or (node_at g k xs).slots i [])
      → (2 < g.stride → y ≡ set (set x 1 p) 2 (length_in 1 (get_or (node_at g k xs).slots i []))) → (g.stride ≤ 2 → y ≡ set x 1 p)
      → (3 < g.stride → z ≡ set y 3 (length_in 2 (get_or (node_at g k xs).slots i []))) → (g.stride ≤ 3 → z ≡ y)
      → lengths_in (g.stride - 1) z ≡ lengths (get_or (node_at g k xs).slots i [])
  lengths_read x y z p four e = put_lengths (get_or (node_at g k xs).slots i []) p e g.stride x y z four width a.shaped.columns a.shaped.narrow

-- what is left of an entry, length by length
less_words : (n o₁ o₂ o₃ g₁ g₂ g₃ : ℕ) → n ≤ 3 → take n ((o₁ - g₁) ∷ (o₂ - g₂) ∷ (o₃ - g₃) ∷ []) ≡ zip_with ◌-◌ (take n (o₁ ∷ o₂ ∷ o₃ ∷ [])) (take n (g₁ ∷ g₂ ∷ g₃ ∷ []))
unfolding zip_with
less_words zero o₁ o₂ o₃ g₁ g₂ g₃ h = refl
less_words (suc zero) o₁ o₂ o₃ g₁ g₂ g₃ h = refl
less_words (suc (suc zero)) o₁ o₂ o₃ g₁ g₂ g₃ h = refl
less_words (suc (suc (suc zero))) o₁ o₂ o₃ g₁ g₂ g₃ h = refl
less_words (suc (suc (suc (suc n)))) o₁ o₂ o₃ g₁ g₂ g₃ h = absurd (omega arith)

module _ (n : ℕ) (ordered : Bool) (few : n ≤ 3) (given own : List ℕ) (four : length given ≡ 4) (four' : length own ≡ 4) (m : Bool) (em : m ≡ crossed (kind_of n 0 ordered) (lengths_in n given)) where
  pub crossed_left : m ≡ false → (a b c : ℕ) → a ≡ get_or own 1 0 - get_or given 1 0 → b ≡ get_or own 2 0 - get_or given 2 0 → c ≡ get_or own 3 0 - get_or given 3 0
      → (r : Bool) → r ≡ crossed (kind_of n 0 ordered) (lengths_in n (0 ∷ a ∷ b ∷ c ∷ [])) → r ≡ (crossed_parts (kind_of n 0 ordered) (lengths_in n given) (lengths_in n own)).applies
  crossed_left e a b c ea eb ec r er =
      er ∙ ap (crossed (kind_of n 0 ordered)) left ∙ sym (rw (sym em ∙ e))
    where
      left : lengths_in n (0 ∷ a ∷ b ∷ c ∷ []) ≡ zip_with ◌-◌ (lengths_in n own) (lengths_in n given)
      left = rw (ea, eb, ec, behind_three given four, behind_three own four') (less_words n (get_or own 1 0) (get_or own 2 0) (get_or own 3 0) (get_or given 1 0) (get_or given 2 0) (get_or given 3 0) few)

-- a test of two slots' lengths in each view: t of the view, of a's length and of b's
module _ (t : ℕ → ℕ → ℕ → Bool) (a b : List ℕ) where
  abbrev test_at : ℕ → Bool
  test_at v = t v (get_or a (v + 1) 0) (get_or b (v + 1) 0)

  abbrev test_some : ℕ → Bool
  test_some s = some (λ v. t v (get_or (lengths_in (s - 1) a) v 0) (get_or (lengths_in (s - 1) b) v 0)) (range 0 (s - 1))

  each : (s : ℕ) → 2 ≤ s → s ≤ 4 → test_some s ≡ (test_at 0 || (cond (ltb 2 s) (test_at 1) false || (cond (ltb 3 s) (test_at 2) false || false)))
  unfolding some range part
  each zero h g = absurd (omega arith)
  each (suc zero) h g = absurd (omega arith)
  each (suc (suc zero)) h g = rw (get_d_part 1 1 0 a (omega arith), get_d_part 1 1 0 b (omega arith))
  each (suc (suc (suc zero))) h g =
      rw (get_d_part 1 2 0 a (omega arith), get_d_part 1 2 0 b (omega arith), get_d_part 1 2 1 a (omega arith), get_d_part 1 2 1 b (omega arith))
  each (suc (suc (suc (suc zero)))) h g =
      rw
      (get_d_part 1 3 0 a (omega arith), get_d_part 1 3 0 b (omega arith), get_d_part 1 3 1 a (omega arith), get_d_part 1 3 1 b (omega arith), get_d_part 1 3 2 a (omega arith), get_d_part 1 3 2 b (omega arith))
  each (suc (suc (suc (suc (suc s))))) h g = absurd (omega arith)

  -- by tests one after the other
  module _ (s : ℕ) (h : 2 ≤ s) (g : s ≤ 4) where
    pub some_first : test_at 0 ≡ true → true ≡ test_some s
    some_first e = sym (each s h g ∙ rw e)

    module _ (no : test_at 0 ≡ false) where
      pub some_second : 2 < s → test_at 1 ≡ true → true ≡ test_some s
      some_second l e = sym (each s h g ∙ rw (no, lt-ltb 2 s l, e))

      pub some_third : (2 < s → test_at 1 ≡ false) → 3 < s → (r : Bool) → r ≡ test_at 2 → r ≡ test_some s
      some_third f l r e = sym (each s h g ∙ rw (no, lt-ltb 2 s (omega arith), f (omega arith), lt-ltb 3 s l) (last (test_at 2) ∙ sym e))
        where
          last : (c : Bool) → (c || false) ≡ c
          last true = refl
          last false = refl

      pub some_none : (2 < s → test_at 1 ≡ false) → s ≤ 3 → false ≡ test_some s
      some_none f l = sym (each s h g ∙ rw (no, le-ltb 3 s l) (go (ltb 2 s) refl))
        where
          go : (c : Bool) → ltb 2 s ≡ c → (cond c (test_at 1) false || false) ≡ false
          go true e = rw (f (ltb-true 2 s e))
          go false e = refl

-- the parts of a divided entry, whose lengths are lent as four words: what is moved is hollow where it isn't more than nothing, what is left where the
-- entry hasn't more than what is moved
less_above : (a b : ℕ) → ltb a b ≡ ltb 0 (b - a)
less_above a b = go (ltb a b) refl
  where
    go : (c : Bool) → ltb a b ≡ c → c ≡ ltb 0 (b - a)
    go true e = sym (lt-ltb 0 (b - a) (omega (arith, ltb-true a b e)))
    go false e = sym (le-ltb 0 (b - a) (omega (arith, ltb-false a b e)))

less_at : (xs ys : List ℕ) (v : ℕ) → v < length ys → get_or (zip_with ◌-◌ xs ys) v 0 ≡ get_or xs v 0 - get_or ys v 0
unfolding zip_with
less_at [] ys v h = omega arith
less_at (x ∷ xs) [] v h = absurd (omega arith)
less_at (x ∷ xs) (y ∷ ys) zero h = refl
less_at (x ∷ xs) (y ∷ ys) (suc v) h = less_at xs ys v (omega arith)

module _ (n : ℕ) (few : n ≤ 3) (given own : List ℕ) (four : length given ≡ 4) (m : Bool) (em : m ≡ more_in n (lengths_in n given) (lengths_in n (replicate 4 0))) where
  abbrev moved : List ℕ
  moved = lengths_in n given

  abbrev whole : List ℕ
  whole = lengths_in n own

  moves : some (λ v. ltb 0 (get_or moved v 0)) (range 0 n) ≡ m
  unfolding part
  moves =
      sym
      (em
      ∙ some_views n (λ v. ltb (get_or (lengths_in n (replicate 4 0)) v 0) (get_or moved v 0)) (λ v. ltb 0 (get_or moved v 0))
      (λ v l. ap (λ (k : ℕ). ltb k (get_or moved v 0)) (get_d_part 1 n v (replicate 4 0) l ∙ get_or-replicate 4 (1 + v) 0 0 (omega arith))))

  pub hollow_moved : m ≡ false → true ≡ hollow_in n moved whole
  hollow_moved e = sym (rw (moves ∙ e))

  leaves : some (λ v. ltb 0 (get_or (zip_with ◌-◌ whole moved) v 0)) (range 0 n) ≡ more_in n whole moved
  unfolding part
  leaves =
      sym (some_views n (λ v. ltb (get_or moved v 0) (get_or whole v 0)) (λ v. ltb 0 (get_or (zip_with ◌-◌ whole moved) v 0))
      (λ v l. less_above (get_or moved v 0) (get_or whole v 0) ∙ ap (ltb 0) (sym (less_at whole moved v (omega (arith, length_part 1 n given (omega arith)))))))

  pub hollow_left : m ≡ true → (r : Bool) → r ≡ more_in n whole moved → not r ≡ hollow_in n moved whole
  hollow_left e r er = sym (rw (moves ∙ e, leaves, ← er))

-- the slots in use are the first k, which are as many as len or, where that is past the fan, as the fan
pub in_use_law : (s fan n k : ℕ) (ws : List ℕ) → n ≡ cond (ltb (get_or ws 0 0) fan) (get_or ws 0 0) fan → k ≤ n → n ≤ k → slots_from s k 3 ws ≡ used (node_of s fan ws)
unfolding node_of
in_use_law s fan n k ws e a b =
    let z : k ≡ n = omega arith in
    let l : length (slots_from s fan 3 ws) ≡ fan = slots_length s fan 3 ws in
    rw (z, e)
    (by_test (λ (y : ℕ). slots_from s y 3 ws ≡ take (get_or ws 0 0) (slots_from s fan 3 ws)) (ltb (get_or ws 0 0) fan) _ _
    (λ t. sym (slots_take s fan (get_or ws 0 0) 3 ws (omega (arith, ltb-true (get_or ws 0 0) fan t))))
    (λ t. sym (take_all (get_or ws 0 0) (slots_from s fan 3 ws) (omega (arith, l, ltb-false (get_or ws 0 0) fan t)))))
