-- A slot's words written one by one, as many as the slot has: two to four. Assumes nothing.
use Rattle.std.proofs.Common.{◌≡◌, ℕ, zero, suc, ◌+◌, ◌-◌, ◌*◌, ◌%◌, ◌^◌, ◌<◌, ◌≤◌, Bool, cond, List, [], ◌∷◌, length, get_or, take, drop, set, sym, refl, ap, ◌∙◌, arith, length-drop, length-set, length-take}
use mathlib.Core.List.{zip_with}
use Rattle.model.specs.Lists.{part, put_at}
use Rattle.model_laws.specs.Words.{part_none, part_front, set_put, put_on, put_next, get_d_after}
use Rattle.model_laws.specs.Changes.{change_words, length_lengths}
use Rattle.model_laws.specs.Lists.{row_end, length_zip}
use Rattle.model_laws.specs.Nodes.{formed, node_words}
use Rattle.model_laws.specs.Formed.{formed_lengths}
use Rattle.model.specs.Node.{node_of, words_of, with_lengths, lengths_at, plus, minus, wrap, inserted, child_split, Node}

-- the words of a lent array
pub three_words : (x : List ℕ) → length x ≡ 3 → get_or x 0 0 ∷ get_or x 1 0 ∷ get_or x 2 0 ∷ [] ≡ x
three_words [] e = absurd (omega arith)
three_words (a ∷ []) e = absurd (omega arith)
three_words (a ∷ b ∷ []) e = absurd (omega arith)
three_words (a ∷ b ∷ d ∷ []) e = refl
three_words (a ∷ b ∷ d ∷ u ∷ x) e = absurd (omega arith)

pub four_words : (x : List ℕ) → length x ≡ 4 → get_or x 0 0 ∷ get_or x 1 0 ∷ get_or x 2 0 ∷ get_or x 3 0 ∷ [] ≡ x
four_words [] e = absurd (omega arith)
four_words (a ∷ x) e = ap (λ (l : List ℕ). a ∷ l) (three_words x (omega arith))

-- as many of them as a slot has
pub front_length : (s : ℕ) (x : List ℕ) → s ≤ length x → length (take s x) ≡ s
front_length s x h = rw length-take (omega arith)

-- three words written from word q on, the second and the third where a slot has them
module _ (q q2 q3 : ℕ) (ws two three : List ℕ) (e2 : q2 ≡ q + 1) (e3 : q3 ≡ q + 2) where
  pub written : (s a b d : ℕ) → 2 ≤ s → s ≤ 4 → q + (s - 1) ≤ length ws
      → (2 < s → two ≡ set (set ws q a) q2 b) → (s ≤ 2 → two ≡ set ws q a) → (3 < s → three ≡ set two q3 d) → (s ≤ 3 → three ≡ two)
      → three ≡ put_at q (take (s - 1) (a ∷ b ∷ d ∷ [])) ws
  written zero a b d h g l t2 n2 t3 n3 = absurd (omega arith)
  written (suc zero) a b d h g l t2 n2 t3 n3 = absurd (omega arith)
  written (suc (suc zero)) a b d h g l t2 n2 t3 n3 = n3 (omega arith) ∙ n2 (omega arith) ∙ set_put q a ws (omega arith)
  written (suc (suc (suc zero))) a b d h g l t2 n2 t3 n3 =
      n3 (omega arith) ∙ t2 (omega arith) ∙ ap (λ (z : List ℕ). set z q2 b) (set_put q a ws (omega arith)) ∙ put_on q q2 b (a ∷ []) ws e2 (omega arith)
  written (suc (suc (suc (suc zero)))) a b d h g l t2 n2 t3 n3 =
      t3 (omega arith)
      ∙ ap (λ (z : List ℕ). set z q3 d) (t2 (omega arith) ∙ ap (λ (z : List ℕ). set z q2 b) (set_put q a ws (omega arith)) ∙ put_on q q2 b (a ∷ []) ws e2 (omega arith))
      ∙ put_on q q3 d (a ∷ b ∷ []) ws e3 (omega arith)
  written (suc (suc (suc (suc (suc s))))) a b d h g l t2 n2 t3 n3 = absurd (omega arith)

-- the lengths of the slot x
pub lengths_put : (s p : ℕ) (x ws two three : List ℕ) → length x ≡ 4 → 2 ≤ s → s ≤ 4 → p + s ≤ length ws
    → (2 < s → two ≡ set (set ws (p + 1) (get_or x 1 0)) (p + 2) (get_or x 2 0)) → (s ≤ 2 → two ≡ set ws (p + 1) (get_or x 1 0))
    → (3 < s → three ≡ set two (p + 3) (get_or x 3 0)) → (s ≤ 3 → three ≡ two) → three ≡ put_at (p + 1) (take (s - 1) (drop 1 x)) ws
lengths_put s p x ws two three ex h g l t2 n2 t3 n3 =
    written (p + 1) (p + 2) (p + 3) ws two three (omega arith) (omega arith) s (get_or x 1 0) (get_or x 2 0) (get_or x 3 0) h g (omega arith) t2 n2 t3 n3
    ∙ ap (λ (z : List ℕ). put_at (p + 1) (take (s - 1) (drop 1 z)) ws) (four_words x ex)

-- the child before them
front : (s : ℕ) (x : List ℕ) → 0 < length x → 0 < s → get_or x 0 0 ∷ take (s - 1) (drop 1 x) ≡ take s x
front zero x e h = absurd (omega arith)
front (suc n) [] e h = absurd (omega arith)
front (suc n) (a ∷ x) e h = let z : suc n - 1 ≡ n = omega arith in rw z refl

pub slot_put : (s p : ℕ) (x ws : List ℕ) → length x ≡ 4 → 0 < s → s ≤ 4 → p + s ≤ length ws → put_at (p + 1) (take (s - 1) (drop 1 x)) (set ws p (get_or x 0 0)) ≡ put_at p (take s x) ws
slot_put s p x ws ex h g l =
    let ys : List ℕ = take (s - 1) (drop 1 x) in
    let ly : length ys ≡ s - 1 = front_length (s - 1) (drop 1 x) (rw length-drop (omega arith)) in
    ap (put_at (p + 1) ys) (set_put p (get_or x 0 0) ws (omega arith))
    ∙ put_next p (p + 1) (get_or x 0 0 ∷ []) ys ws refl (omega arith)
    ∙ ap (λ (z : List ℕ). put_at p z ws) (front s x (omega arith) h)

-- sums with opposites modulo 2 ^ 32 in the place of differences
abbrev added : ℕ → ℕ → ℕ
added a n = wrap (a + n)

abbrev taken : ℕ → ℕ → ℕ
taken a y = wrap (a + (2 ^ 32 - y))

pub opposite : (n y : ℕ) → (n + y) % 2 ^ 32 ≡ 0 → n < 2 ^ 32 → y < 2 ^ 32 → (a : ℕ) → wrap (a + n) ≡ wrap (a + (2 ^ 32 - y))
opposite n y e h g a = omega arith

none : (k : ℕ) (ls : List ℕ) → zip_with added ls (take k []) ≡ zip_with taken ls (take k [])
unfolding zip_with
none zero [] = refl
none zero (l ∷ ls) = refl
none (suc k) [] = refl
none (suc k) (l ∷ ls) = refl

one : (n y : ℕ) (ns ys : List ℕ) → ((a : ℕ) → added a n ≡ taken a y) → ((ls : List ℕ) → zip_with added ls ns ≡ zip_with taken ls ys) → (ls : List ℕ) → zip_with added ls (n ∷ ns) ≡ zip_with taken ls (y ∷ ys)
unfolding zip_with
one n y ns ys h r [] = refl
one n y ns ys h r (l ∷ ls) = rw (h l, r ls)

-- those of the lengths of the slot x, as many as a slot has
module _ (x : List ℕ) (n m u : ℕ) (ex : length x ≡ 4) (hn : (a : ℕ) → added a n ≡ taken a (get_or x 1 0)) (hm : (a : ℕ) → added a m ≡ taken a (get_or x 2 0)) (hu : (a : ℕ) → added a u ≡ taken a (get_or x 3 0)) where
  some : (k : ℕ) (ls : List ℕ) → zip_with added ls (take k (n ∷ m ∷ u ∷ [])) ≡ zip_with taken ls (take k (get_or x 1 0 ∷ get_or x 2 0 ∷ get_or x 3 0 ∷ []))
  some zero = none 0
  some (suc zero) = one n _ _ _ hn (none 0)
  some (suc (suc zero)) = one n _ _ _ hn (one m _ _ _ hm (none 0))
  some (suc (suc (suc k))) = one n _ _ _ hn (one m _ _ _ hm (one u _ _ _ hu (none k)))

  pub less_all : (k : ℕ) (ls : List ℕ) → plus ls (take k (n ∷ m ∷ u ∷ [])) ≡ minus ls (take k (drop 1 x))
  unfolding plus minus
  less_all k ls = some k ls ∙ ap (λ (z : List ℕ). zip_with taken ls (take k (drop 1 z))) (four_words x ex)

-- a word behind the one that is written
later : (q r a : ℕ) (ws : List ℕ) → q < r → q < length ws → get_or (set ws q a) r 0 ≡ get_or ws r 0
later q r a ws h l = ap (λ (z : List ℕ). get_or z r 0) (set_put q a ws l) ∙ get_d_after q r (a ∷ []) ws (omega arith) (omega arith)

-- a part, its first word apart
next : (q r n : ℕ) (ws rest : List ℕ) → r ≡ q + 1 → q < length ws → part r n ws ≡ rest → part q (n + 1) ws ≡ get_or ws q 0 ∷ rest
next q r n ws rest e h p = part_front q n ws h ∙ ap (λ (z : List ℕ). get_or ws q 0 ∷ z) (ap (λ (k : ℕ). part k n ws) (sym e) ∙ p)

-- one to three words changed
zipped : (f : ℕ → ℕ → ℕ) (q q2 q3 a b d : ℕ) (ws : List ℕ) → q2 ≡ q + 1 → q3 ≡ q2 + 1 → (s : ℕ) → 2 ≤ s → s ≤ 4 → q + (s - 1) ≤ length ws
    → take (s - 1) (f (get_or ws q 0) a ∷ f (get_or ws q2 0) b ∷ f (get_or ws q3 0) d ∷ []) ≡ zip_with f (part q (s - 1) ws) (take (s - 1) (a ∷ b ∷ d ∷ []))
unfolding zip_with
zipped f q q2 q3 a b d ws e2 e3 zero h g l = absurd (omega arith)
zipped f q q2 q3 a b d ws e2 e3 (suc zero) h g l = absurd (omega arith)
zipped f q q2 q3 a b d ws e2 e3 (suc (suc zero)) h g l = rw (next q q2 0 ws [] e2 (omega arith) (part_none q2 ws))
zipped f q q2 q3 a b d ws e2 e3 (suc (suc (suc zero))) h g l = rw (next q q2 1 ws _ e2 (omega arith) (next q2 q3 0 ws [] e3 (omega arith) (part_none q3 ws)))
zipped f q q2 q3 a b d ws e2 e3 (suc (suc (suc (suc zero)))) h g l =
    rw (next q q2 2 ws _ e2 (omega arith) (next q2 q3 1 ws _ e3 (omega arith) (next q3 (q3 + 1) 0 ws [] refl (omega arith) (part_none (q3 + 1) ws))))
zipped f q q2 q3 a b d ws e2 e3 (suc (suc (suc (suc (suc s))))) h g l = absurd (omega arith)

-- each length of slot i changed by one of ys
pub lengths_changed : (f : ℕ → ℕ → ℕ) (s fan i a b d : ℕ) (ys ws two three : List ℕ) → length ws ≡ 3 + fan * s → i < fan → a ∷ b ∷ d ∷ [] ≡ ys → 2 ≤ s → s ≤ 4
    → (2 < s → two ≡ set (set ws (3 + i * s + 1) (f (get_or ws (3 + i * s + 1) 0) a)) (3 + i * s + 2) (f (get_or (set ws (3 + i * s + 1) (f (get_or ws (3 + i * s + 1) 0) a)) (3 + i * s + 2) 0) b)) → (s ≤ 2 → two ≡ set ws (3 + i * s + 1) (f (get_or ws (3 + i * s + 1) 0) a))
    → (3 < s → three ≡ set two (3 + i * s + 3) (f (get_or two (3 + i * s + 3) 0) d)) → (s ≤ 3 → three ≡ two)
    → three ≡ words_of (with_lengths i (zip_with f (lengths_at i (node_of s fan ws).slots) (take (s - 1) ys)) (node_of s fan ws))
lengths_changed f s fan i a b d ys ws two three e hi ey h g t2 n2 t3 n3 =
    let q : ℕ = 3 + i * s + 1 in
    let u : ℕ = f (get_or ws q 0) a in
    let q2 : ℕ = 3 + i * s + 2 in
    let q3 : ℕ = 3 + i * s + 3 in
    let l : q + (s - 1) ≤ length ws = omega (arith, row_end i fan s hi) in
    let k : length (set ws q u) ≡ length ws = length-set ws q u in
    let second : 2 < s → two ≡ set (set ws q u) q2 (f (get_or ws q2 0) b) = λ m. t2 m ∙ ap (λ (z : ℕ). set (set ws q u) q2 (f z b)) (later q q2 u ws (omega arith) (omega arith)) in
    let third : 3 < s → get_or two q3 0 ≡ get_or ws q3 0 = λ m. ap (λ (z : List ℕ). get_or z q3 0) (second (omega arith))
    ∙ later q2 q3 (f (get_or ws q2 0) b) (set ws q u) (omega arith) (omega arith) ∙ later q q3 u ws (omega arith) (omega arith) in
    let ly : length (take (s - 1) (a ∷ b ∷ d ∷ [])) ≡ s - 1 = front_length (s - 1) (a ∷ b ∷ d ∷ []) (omega arith) in
    written q q2 q3 ws two three (omega arith) (omega arith) s u (f (get_or ws q2 0) b) (f (get_or ws q3 0) d) h g l second n2 (λ m. t3 m ∙ ap (λ (z : ℕ). set two q3 (f z d)) (third m)) n3
    ∙ ap (λ (z : List ℕ). put_at q z ws) (zipped f q q2 q3 a b d ws (omega arith) (omega arith) s h g l)
    ∙ ap (λ (n : ℕ). put_at q (zip_with f (part q n ws) (take (s - 1) (a ∷ b ∷ d ∷ []))) ws) (sym ly)
    ∙ change_words s fan ws e f i (take (s - 1) (a ∷ b ∷ d ∷ [])) hi (omega arith)
    ∙ ap (λ (z : List ℕ). words_of (with_lengths i (zip_with f (lengths_at i (node_of s fan ws).slots) (take (s - 1) z)) (node_of s fan ws))) ey

-- other lengths leave the number of slots in use as it is
pub lengths_first : (s fan i : ℕ) (ls ws now : List ℕ) → now ≡ words_of (with_lengths i ls (node_of s fan ws)) → get_or now 0 0 ≡ get_or ws 0 0
unfolding words_of node_of
lengths_first s fan i ls ws now e = ap (λ (l : List ℕ). get_or l 0 0) e

take_none : (n : ℕ) → take {A = ℕ} n [] ≡ []
take_none zero = refl
take_none (suc n) = refl

-- the lengths of a slot of s words
tail_front : (s : ℕ) (x : List ℕ) → 0 < s → take (s - 1) (drop 1 x) ≡ drop 1 (take s x)
tail_front zero x h = absurd (omega arith)
tail_front (suc n) [] h = take_none (suc n - 1)
tail_front (suc n) (a ∷ x) h = let z : suc n - 1 ≡ n = omega arith in rw z refl

-- the lengths of x are taken from slot i, and then x is put in
pub split_taken : (s fan : ℕ) (before : Bool) (i : ℕ) (x ws now : List ℕ) → length ws ≡ 3 + fan * s → length x ≡ 4 → 2 ≤ s → s ≤ 4 → i < fan
    → now ≡ words_of (with_lengths i (minus (lengths_at i (node_of s fan ws).slots) (take (s - 1) (drop 1 x))) (node_of s fan ws))
    → words_of (inserted (cond before i (i + 1)) (take s x) (node_of s fan now)) ≡ words_of (child_split before i (take s x) (node_of s fan ws))
unfolding child_split minus
split_taken s fan before i x ws now e ex h g hi en =
    let f : ℕ → ℕ → ℕ = λ a b. wrap (a + (2 ^ 32 - b)) in
    let ys : List ℕ = take (s - 1) (drop 1 x) in
    let ls : List ℕ = zip_with f (lengths_at i (node_of s fan ws).slots) ys in
    let ly : length ys ≡ s - 1 = front_length (s - 1) (drop 1 x) (rw length-drop (omega arith)) in
    let l = length_lengths s fan ws e i (omega arith) hi in
    let z : length ls ≡ length (lengths_at i (node_of s fan ws).slots) = length_zip f (lengths_at i (node_of s fan ws).slots) ys (omega arith) in
    let k = formed_lengths s fan (node_of s fan ws) (formed s fan ws e) i ls (omega arith) in
    ap (λ (n : Node). words_of (inserted (cond before i (i + 1)) (take s x) n)) (ap (node_of s fan) en ∙ node_words s fan (with_lengths i ls (node_of s fan ws)) k)
    ∙ ap (λ (v : List ℕ). words_of (inserted (cond before i (i + 1)) (take s x) (with_lengths i (zip_with f (lengths_at i (node_of s fan ws).slots) v) (node_of s fan ws)))) (tail_front s x (omega arith))
