-- Which totals pass u32: by one look at words that are low, and by sums view by view. Assumes nothing.
use mathlib.Core.Path.{◌≡◌, refl, sym, ap, ◌∙◌, subst}
use mathlib.Core.Bool.{Bool, true, false, cond}
use mathlib.Core.List.{List}
use Prim.Native.Nat.{ℕ, zero, suc, ◌+◌, ◌-◌, ◌*◌, ◌<◌, ◌≤◌}
use native.Mathlib.Omega.{arith}
use native.Mathlib.Nat.{suc-mul, add-zero}
use lib.Bits.{bit_or, or_add_and, and_le_l, and_le_r}
use lib.ListN.{length, get_or, take, drop, length-take, length-drop}
use lib.Dec.{ltb}
use borrow.Author.Tests.{ltb-true, ltb-false, lt-ltb, le-ltb}
use Rattle.model.specs.Lists.{part, sum_by}
use Rattle.model.specs.Length.{lengths_in}
use Rattle.model.specs.Node.{slots_from, node_of, total, used}
use Rattle.model.specs.State.{shape_for, node_at}
use Rattle.model.specs.declared.shape.Shape.{Shape}
use Rattle.model_laws.specs.Lists.{none_views}
use Rattle.model_laws.specs.Words.{get_d_part, lent}
use Rattle.model_laws.specs.AreaRead.{node_length}
use Rattle.model_laws.specs.Read.{total_none, total_more}
use Rattle.tree_node.specs.Shaped.{Shaped, slots_in_law}
use Rattle.tree_area.specs.Area.{AreaHolds}
use Rattle.tree_open.specs.Lengths.{past_in, below}
use Rattle.tree_open.proofs.LengthLaws.{in_use_law}

-- each of two numbers is at most what has the bits of both
or_left : (a b : ℕ) → a ≤ bit_or a b
or_left a b = omega (arith, or_add_and a b, and_le_r a b)

or_right : (a b : ℕ) → b ≤ bit_or a b
or_right a b = omega (arith, or_add_and a b, and_le_l a b)

-- the words from word 3 up to word p are below whatever these four are below, which have the bits of their columns
abbrev pub Under : List ℕ → ℕ → ℕ → ℕ → ℕ → ℕ → Type 0
Under ws p a b c d = (m : ℕ) → a < m → b < m → c < m → d < m → (j : ℕ) → 3 ≤ j → j < p → get_or ws j 0 < m

-- a column that a slot of s words may not have
under_column : (s n x y w m : ℕ) → (n < s → y ≡ bit_or x w) → (s ≤ n → y ≡ x) → y < m → (x < m) × (n < s → w < m)
under_column s n x y w m f g h = go (ltb n s) refl
  where
    go : (b : Bool) → ltb n s ≡ b → (x < m) × (n < s → w < m)
    go true e =
        let z = f (ltb-true n s e) in
        (omega (arith, z, h, or_left x w), λ _. omega (arith, z, h, or_right x w))
    go false e =
        let z = g (ltb-false n s e) in
        (omega (arith, z, h), λ t. absurd (omega (arith, t, ltb-false n s e)))

module _ (ws : List ℕ) (s p a b : ℕ) (few : s ≤ 4) where
  -- word i of the slot from word p on
  one_of : (m j : ℕ) → bit_or a (get_or ws p 0) < m → bit_or b (get_or ws (p + 1) 0) < m → (2 < s → get_or ws (p + 2) 0 < m) → (3 < s → get_or ws (p + 3) 0 < m)
      → (i : ℕ) → j ≡ p + i → i < s → get_or ws j 0 < m
  one_of m j la lb lc ld zero e l =
      let z : j ≡ p = omega (arith, e) in
      rw z (omega (arith, la, or_right a (get_or ws p 0)))
  one_of m j la lb lc ld (suc zero) e l = rw e (omega (arith, lb, or_right b (get_or ws (p + 1) 0)))
  one_of m j la lb lc ld (suc (suc zero)) e l = rw e (lc l)
  one_of m j la lb lc ld (suc (suc (suc zero))) e l = rw e (ld l)
  one_of m j la lb lc ld (suc (suc (suc (suc i)))) e l = absurd (omega (arith, l, few))

  pub under_more : (q c d c1 d1 : ℕ) → q ≡ p + s → (2 < s → c1 ≡ bit_or c (get_or ws (p + 2) 0)) → (s ≤ 2 → c1 ≡ c) → (3 < s → d1 ≡ bit_or d (get_or ws (p + 3) 0)) → (s ≤ 3 → d1 ≡ d)
      → Under ws p a b c d → Under ws q (bit_or a (get_or ws p 0)) (bit_or b (get_or ws (p + 1) 0)) c1 d1
  under_more q c d c1 d1 eq f g h i u m la lb lc ld j from to =
      go (ltb j p) refl (under_column s 2 c c1 (get_or ws (p + 2) 0) m f g lc) (under_column s 3 d d1 (get_or ws (p + 3) 0) m h i ld)
    where
      go : (t : Bool) → ltb j p ≡ t → (c < m) × (2 < s → get_or ws (p + 2) 0 < m) → (d < m) × (3 < s → get_or ws (p + 3) 0 < m) → get_or ws j 0 < m
      go true e x y = u m (omega (arith, la, or_left a (get_or ws p 0))) (omega (arith, lb, or_left b (get_or ws (p + 1) 0))) x.0 y.0 j from (ltb-true j p e)
      go false e x y = one_of m j la lb x.1 y.1 (j - p) (omega (arith, ltb-false j p e)) (omega (arith, to, eq, ltb-false j p e))

pub under_below : (ws : List ℕ) (n a b c d : ℕ) → Under ws (3 + n) a b c d → ltb (bit_or (bit_or (bit_or a b) c) d) 67108864 ≡ true → below 67108864 (take n (drop 3 ws))
unfolding part
under_below ws n a b c d u e j h =
    let l : j < n = omega (arith, length-take n (drop 3 ws)) in
    let t = ltb-true (bit_or (bit_or (bit_or a b) c) d) 67108864 e in
    let third = or_left (bit_or (bit_or a b) c) d in
    let second = or_left (bit_or a b) c in
    omega (
      arith,
      get_d_part 3 n j ws l,
      u 67108864 (omega (arith, t, third, second, or_left a b)) (omega (arith, t, third, second, or_right a b)) (omega (arith, t, third, or_right (bit_or a b) c))
          (omega (arith, t, or_right (bit_or (bit_or a b) c) d)) (3 + j) (omega arith) (omega arith),
    )

-- a total of n words that are at most m
total_most : (s n p v m : ℕ) (ws : List ℕ) → v + 1 < s → ((j : ℕ) → j < n * s → get_or ws (p + j) 0 ≤ m) → total v (slots_from s n p ws) ≤ n * m
unfolding slots_from sum_by
total_most s zero p v m ws h f = omega arith
total_most s (suc n) p v m ws h f =
    let e : (j : ℕ) → p + s + j ≡ p + (s + j) = λ j. omega arith in
    omega (
      arith,
      suc-mul n m,
      get_d_part p s (v + 1) ws h,
      f (v + 1) (omega (arith, suc-mul n s)),
      total_most s n (p + s) v m ws h (λ j l. rw (e j) (f (s + j) (omega (arith, suc-mul n s)))),
    )

-- the slots in use of a node whose words are low
low_total : (g : Shape) (len : ℕ) (ws : List ℕ) → Shaped g → length ws ≡ g.size → len ≤ g.fan → len ≡ cond (ltb (get_or ws 0 0) g.fan) (get_or ws 0 0) g.fan
    → below 67108864 (take (len * g.stride) (drop 3 ws)) → (v : ℕ) → v + 1 < g.stride → total v (used (node_of g.stride g.fan ws)) ≤ 2147483648
unfolding part
low_total g len ws h l most e low v hv =
    let here : 3 + len * g.stride ≤ length ws = slots_in_law g (length ws) h l len most in
    let word : (j : ℕ) → j < len * g.stride → get_or ws (3 + j) 0 ≤ 67108864 =
    λ j k. omega (arith, get_d_part 3 (len * g.stride) j ws k, low j (omega (arith, length-take (len * g.stride) (drop 3 ws), length-drop 3 ws))) in
    rw (← in_use_law g.stride g.fan len len ws e (omega arith) (omega arith)) (omega (arith, h.few, total_most g.stride len 3 v 67108864 ws hv word))

pub low_node : (g : Shape) (k len : ℕ) (xs : List ℕ) → AreaHolds g (length xs) → k < g.nodes → len ≤ g.fan
    → len ≡ cond (ltb (get_or xs (k * g.size) 0) g.fan) (get_or xs (k * g.size) 0) g.fan
    → below 67108864 (take (len * g.stride) (drop 3 (take (k * g.size + g.size - k * g.size) (drop (k * g.size) xs))))
    → (v : ℕ) → v + 1 < g.stride → total v (used (node_at g k xs)) ≤ 2147483648
low_node g k len xs a hk most e low =
    let ws : List ℕ = part (k * g.size) g.size xs in
    let size : 0 < g.size = omega (arith, a.shaped.words) in
    let first : get_or ws 0 0 ≡ get_or xs (k * g.size) 0 = get_d_part (k * g.size) g.size 0 xs size ∙ ap (λ (j : ℕ). get_or xs j 0) (add-zero (k * g.size)) in
    low_total g len ws a.shaped (node_length g k xs hk a.room) most (rw first e) (subst (λ (w : List ℕ). below 67108864 (take (len * g.stride) (drop 3 w))) (lent (k * g.size) g.size xs) low)

-- the bits of a slot's lengths: p with the second, q with the third
module _ (x : List ℕ) (p q : ℕ) where
  small_at : (s j : ℕ) → 2 ≤ s → s ≤ 4 → (2 < s → p ≡ bit_or (get_or x 1 0) (get_or x 2 0)) → (s ≤ 2 → p ≡ get_or x 1 0) → (3 < s → q ≡ bit_or p (get_or x 3 0)) → (s ≤ 3 → q ≡ p)
      → j < s - 1 → get_or x (1 + j) 0 ≤ q
  small_at zero j h g p₁ p₂ q₁ q₂ l = absurd (omega arith)
  small_at (suc zero) j h g p₁ p₂ q₁ q₂ l = absurd (omega arith)
  small_at (suc (suc zero)) zero h g p₁ p₂ q₁ q₂ l = omega (arith, p₂ (omega arith), q₂ (omega arith))
  small_at (suc (suc zero)) (suc j) h g p₁ p₂ q₁ q₂ l = absurd (omega arith)
  small_at (suc (suc (suc zero))) zero h g p₁ p₂ q₁ q₂ l = omega (arith, p₁ (omega arith), q₂ (omega arith), or_left (get_or x 1 0) (get_or x 2 0))
  small_at (suc (suc (suc zero))) (suc zero) h g p₁ p₂ q₁ q₂ l = omega (arith, p₁ (omega arith), q₂ (omega arith), or_right (get_or x 1 0) (get_or x 2 0))
  small_at (suc (suc (suc zero))) (suc (suc j)) h g p₁ p₂ q₁ q₂ l = absurd (omega arith)
  small_at (suc (suc (suc (suc zero)))) zero h g p₁ p₂ q₁ q₂ l =
      omega (arith, p₁ (omega arith), q₁ (omega arith), or_left (get_or x 1 0) (get_or x 2 0), or_left p (get_or x 3 0))
  small_at (suc (suc (suc (suc zero)))) (suc zero) h g p₁ p₂ q₁ q₂ l =
      omega (arith, p₁ (omega arith), q₁ (omega arith), or_right (get_or x 1 0) (get_or x 2 0), or_left p (get_or x 3 0))
  small_at (suc (suc (suc (suc zero)))) (suc (suc zero)) h g p₁ p₂ q₁ q₂ l = omega (arith, q₁ (omega arith), or_right p (get_or x 3 0))
  small_at (suc (suc (suc (suc zero)))) (suc (suc (suc j))) h g p₁ p₂ q₁ q₂ l = absurd (omega arith)
  small_at (suc (suc (suc (suc (suc s))))) j h g p₁ p₂ q₁ q₂ l = absurd (omega arith)

  pub small_below : (s : ℕ) → 2 ≤ s → s ≤ 4 → (2 < s → p ≡ bit_or (get_or x 1 0) (get_or x 2 0)) → (s ≤ 2 → p ≡ get_or x 1 0) → (3 < s → q ≡ bit_or p (get_or x 3 0)) → (s ≤ 3 → q ≡ p)
      → ltb q 2147483648 ≡ true → below 2147483648 (lengths_in (s - 1) x)
  unfolding part
  small_below s h g p₁ p₂ q₁ q₂ e j l =
      let k : j < s - 1 = omega (arith, length-take (s - 1) (drop 1 x)) in
      omega (arith, get_d_part 1 (s - 1) j x k, small_at s j h g p₁ p₂ q₁ q₂ k, ltb-true q 2147483648 e)

-- whether a total passes u32 with a new length for an old one
abbrev pub passing : Shape → ℕ → List ℕ → ℕ → ℕ → ℕ → Bool
passing g root xs v old new = ltb (4294967295 + old) (total v (used (node_at g root xs)) + new)

-- the test by a sum that is the total
pub sum_tested : (sum all old new : ℕ) (r : Bool) → sum ≡ all → r ≡ ltb (4294967295 + old) (sum + new) → r ≡ ltb (4294967295 + old) (all + new)
sum_tested sum all old new r e f = f ∙ ap (λ (x : ℕ). ltb (4294967295 + old) (x + new)) e

pub sum_test : (sum all old new : ℕ) (r b : Bool) → sum ≡ all → r ≡ ltb (4294967295 + old) (sum + new) → r ≡ b → ltb (4294967295 + old) (all + new) ≡ b
sum_test sum all old new r b e f g = sym (sum_tested sum all old new r e f) ∙ g

-- a sum in a view that a slot may lack: where it has it, no slot, one slot further
pub if_there : (s c sum all : ℕ) → c < s → sum ≡ cond (ltb c s) all 0 → sum ≡ all
if_there s c sum all h e = rw (lt-ltb c s h) at e

none_if : (b : Bool) → ◌≡◌ {A = ℕ} 0 (cond b 0 0)
none_if true = refl
none_if false = refl

pub sum_none : (s v c : ℕ) (ws : List ℕ) → 0 ≡ cond (ltb c s) (total v (slots_from s 0 3 ws)) 0
sum_none s v c ws = rw (total_none s 3 v ws) (none_if (ltb c s))

pub sum_more : (s n v q c sum sum' : ℕ) (ws : List ℕ) → c ≡ v + 1 → q ≡ 3 + n * s + c → sum ≡ cond (ltb c s) (total v (slots_from s n 3 ws)) 0 → (c < s → (sum' ≡ sum + get_or ws q 0)) → (s ≤ c → sum' ≡ sum)
    → sum' ≡ cond (ltb c s) (total v (slots_from s (n + 1) 3 ws)) 0
sum_more s n v q c sum sum' ws ec eq e f g = go (ltb c s) refl
  where
    go : (b : Bool) → ltb c s ≡ b → sum' ≡ cond (ltb c s) (total v (slots_from s (n + 1) 3 ws)) 0
    go true t =
        let l : c < s = ltb-true c s t in
        rw t (f l ∙ total_more s n 3 v q sum (get_or ws q 0) ws (omega (arith, l)) (omega arith) (rw t at e) refl)
    go false t = rw t (g (ltb-false c s t) ∙ (rw t at e))

-- no view's total passes u32 where all words are low
pub past_none : (g : Shape) (root : ℕ) (xs old new : List ℕ) → Shaped g → length new ≡ 4 → below 2147483648 (lengths_in (g.stride - 1) new)
    → ((v : ℕ) → v + 1 < g.stride → total v (used (node_at g root xs)) ≤ 2147483648)
    → false ≡ past_in g root xs (lengths_in (g.stride - 1) old) (lengths_in (g.stride - 1) new)
past_none g root xs old new h four low totals =
    let a : List ℕ = lengths_in (g.stride - 1) old in
    let b : List ℕ = lengths_in (g.stride - 1) new in
    sym
    (none_views (g.stride - 1) (λ v. ltb (4294967295 + get_or a v 0) (total v (used (node_at g root xs)) + get_or b v 0))
    (λ v l. le-ltb (4294967295 + get_or a v 0) (total v (used (node_at g root xs)) + get_or b v 0)
    (omega (arith, totals v (omega arith), low v (omega (arith, h.narrow, h.columns, length-take (g.stride - 1) (drop 1 new), length-drop 1 new))))))

-- the same of a shape that is made from its sizes
pub past_for : (views fan nodes root : ℕ) (xs old new : List ℕ) (g : Shape) (r : Bool) → g ≡ shape_for views fan nodes
    → r ≡ past_in g root xs (lengths_in (g.stride - 1) old) (lengths_in (g.stride - 1) new)
    → r ≡ past_in (shape_for views fan nodes) root xs (lengths_in views old) (lengths_in views new)
past_for views fan nodes root xs old new g r e h =
    let z : suc views - 1 ≡ views = omega arith in
    let f : r ≡ past_in (shape_for views fan nodes) root xs (lengths_in (suc views - 1) old) (lengths_in (suc views - 1) new) =
    subst (λ (y : Shape). r ≡ past_in y root xs (lengths_in (y.stride - 1) old) (lengths_in (y.stride - 1) new)) e h in
    subst (λ (n : ℕ). r ≡ past_in (shape_for views fan nodes) root xs (lengths_in n old) (lengths_in n new)) z f
