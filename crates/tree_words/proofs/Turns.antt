-- One turn of each loop that writes words. Assumes nothing.
use mathlib.Core.Path.{◌≡◌, refl, sym, ap, ◌∙◌}
use mathlib.Core.List.{List, [], ◌∷◌, ◌++◌}
use Prim.Native.Nat.{ℕ, zero, suc, ◌+◌, ◌-◌, ◌*◌, ◌%◌, ◌^◌, ◌<◌, ◌≤◌}
use native.Mathlib.Omega.{arith}
use native.Mathlib.Numerals.{unary_clauses}
use lib.ListN.{length, get_or, take, drop, set, replicate, length-replicate, replicate-append-replicate}
use Rattle.model.specs.Lists.{part, put_at}
use Rattle.model.specs.Node.{none, wrap, empty_slot, empty_slots}
use Rattle.model_laws.specs.Lists.{row_end}
use Rattle.model_laws.specs.Slots.{flat, flat_append, flat_one, length_flat}
use Rattle.model_laws.specs.Formed.{length_empty, empty_wide}
use Rattle.model_laws.specs.Words.{get_d_before, set_put, put_on, length_part, length_put, part_none, part_front, part_part, part_add, part_same, part_before, part_after, put_next, put_prev, put_back, put_same, put_put, put_over}

-- the difference modulo 2 ^ 32 is the number that, added again, gives the first
pub wrapped_less : (a b r : ℕ) → (r + b) % 2 ^ 32 ≡ a → r < 2 ^ 32 → b < 2 ^ 32 → r ≡ wrap (a + (2 ^ 32 - b))
wrapped_less a b r e h g = omega arith

-- one word more moved up, the last first
pub shift_turn : (s w q : ℕ) (ws : List ℕ) → 0 < w → w ≤ q → q + s ≤ length ws
    → set (put_at (w + s) (part w (q - w) ws) ws) (w - 1 + s) (get_or (put_at (w + s) (part w (q - w) ws) ws) (w - 1) 0) ≡ put_at (w - 1 + s) (part (w - 1) (q - (w - 1)) ws) ws
shift_turn s w q ws h hw hq =
    let l : length (part w (q - w) ws) ≡ q - w = length_part w (q - w) ws (omega arith) in
    let e : q - (w - 1) ≡ q - w + 1 = omega arith in
    let f : w - 1 + 1 ≡ w = omega arith in
    rw (
      get_d_before (w + s) (w - 1) (part w (q - w) ws) ws (omega arith) (omega arith),
      put_back (w + s) (w - 1 + s) (get_or ws (w - 1) 0) (part w (q - w) ws) ws (omega arith)
          (omega arith),
      e,
      part_front (w - 1) (q - w) ws (omega arith),
      f,
    )

-- four words read one by one
pub part_four : (w : ℕ) (ws : List ℕ) → w + 4 ≤ length ws → get_or ws w 0 ∷ get_or ws (w + 1) 0 ∷ get_or ws (w + 2) 0 ∷ get_or ws (w + 3) 0 ∷ [] ≡ part w 4 ws
part_four w ws h =
    let two : w + 1 + 1 ≡ w + 2 = omega arith in
    let three : w + 2 + 1 ≡ w + 3 = omega arith in
    rw (part_front w 3 ws (omega arith), part_front (w + 1) 2 ws (omega arith), two, part_front (w + 2) 1 ws (omega arith), three, part_front (w + 3) 0 ws (omega arith), part_none)

pub put_four : (q a b c d : ℕ) (ws : List ℕ) → q + 4 ≤ length ws → set (set (set (set ws q a) (q + 1) b) (q + 2) c) (q + 3) d ≡ put_at q (a ∷ b ∷ c ∷ d ∷ []) ws
put_four q a b c d ws h =
    rw (set_put q a ws (omega arith), put_on q (q + 1) b (a ∷ []) ws refl (omega arith), put_on q (q + 2) c (a ∷ b ∷ []) ws refl (omega arith))
    (put_on q (q + 3) d (a ∷ b ∷ c ∷ []) ws refl (omega arith))

-- four words more moved up; at last words below p may be among them, over which x comes
pub gap_turn : (s w v q : ℕ) (ws now last : List ℕ) → v ≡ w + 4 → v ≤ q → q + s ≤ length ws → now ≡ put_at (v + s) (part v (q - v) ws) ws → last ≡ put_at (w + s) (part w 4 now) now → last ≡ put_at (w + s) (part w (q - w) ws) ws
gap_turn s w v q ws now last ev h g en el =
    let l : length (part v (q - v) ws) ≡ q - v = length_part v (q - v) ws (omega arith) in
    let m : length (part w 4 ws) ≡ 4 = length_part w 4 ws (omega arith) in
    let e : q - w ≡ 4 + (q - v) = omega arith in
    rw (
      el,
      en,
      part_before w 4 (v + s) (part v (q - v) ws) ws (omega arith) (omega arith),
      put_prev (w + s) (v + s) (part w 4 ws) (part v (q - v) ws) ws (omega arith) (omega arith),
      e,
      part_add w 4 (q - v) ws,
      ev,
    )

pub gap_end : (s p w q : ℕ) (ws now x : List ℕ) → w ≤ p → p ≤ w + s → p ≤ q → q + s ≤ length ws → length x ≡ s → now ≡ put_at (w + s) (part w (q - w) ws) ws
    → put_at p x now ≡ put_at p x (put_at (p + s) (part p (q - p) ws) ws)
gap_end s p w q ws now x h k g r lx en =
    let l : length (part p (q - p) ws) ≡ q - p = length_part p (q - p) ws (omega arith) in
    let m : length (part w (p - w) ws) ≡ p - w = length_part w (p - w) ws (omega arith) in
    let z : length (put_at (p + s) (part p (q - p) ws) ws) ≡ length ws = length_put (p + s) (part p (q - p) ws) ws (omega arith) in
    let e : q - w ≡ p - w + (q - p) = omega arith in
    let f : w + (p - w) ≡ p = omega arith in
    let at : w + s ≡ p + (w + s - p) = omega arith in
    let split : part w (q - w) ws ≡ part w (p - w) ws ++ part p (q - p) ws = rw e (part_add w (p - w) (q - p) ws ∙ ap (λ (i : ℕ). part w (p - w) ws ++ part i (q - p) ws) f) in
    let moved : now ≡ put_at (p + (w + s - p)) (part w (p - w) ws) (put_at (p + s) (part p (q - p) ws) ws) =
    en ∙ ap (λ (y : List ℕ). put_at (w + s) y ws) split ∙ sym (put_prev (w + s) (p + s) (part w (p - w) ws) (part p (q - p) ws) ws (omega arith) (omega arith)) ∙ ap (λ (i : ℕ). put_at i (part w (p - w) ws) (put_at (p + s) (part p (q - p) ws) ws)) at in
    rw moved (put_over p (w + s - p) (part w (p - w) ws) x (put_at (p + s) (part p (q - p) ws) ws) (omega arith) (omega arith))

-- a filled run of words: one word more, and an empty slot made of one
pub fill_turn : (p w a : ℕ) (now ws : List ℕ) → p ≤ w → w < length ws → now ≡ put_at p (replicate (w - p) a) ws → set now w a ≡ put_at p (replicate (w + 1 - p) a) ws
fill_turn p w a now ws h g en =
    let l : length (replicate (w - p) a) ≡ w - p = length-replicate (w - p) a in
    let e : w + 1 - p ≡ w - p + 1 = omega arith in
    rw (en, e, ← replicate-append-replicate (w - p) 1 a) (put_on p w a (replicate (w - p) a) ws (omega arith) g)

empty_end : (p s w : ℕ) (now ws : List ℕ) → p + s ≡ w → 0 < s → w ≤ length ws → now ≡ put_at (p + 1) (replicate (w - (p + 1)) 0) ws → set now p none ≡ put_at p (empty_slot s) ws
unfolding empty_slot
empty_end p s w now ws e h g en =
    let f : w - (p + 1) ≡ s - 1 = omega arith in
    let l : length (replicate {A = ℕ} (s - 1) 0) ≡ s - 1 = length-replicate {A = ℕ} (s - 1) 0 in
    rw (en, f) (put_back (p + 1) p none (replicate (s - 1) 0) ws refl (omega arith))

-- a part of zeros
take_zeros : (k m : ℕ) → k ≤ m → take k (replicate m 0) ≡ replicate {A = ℕ} k 0
take_zeros zero m h = refl
take_zeros (suc k) zero h = absurd (omega arith)
take_zeros (suc k) (suc m) h = ap (λ (l : List ℕ). 0 ∷ l) (take_zeros k m (omega arith))

drop_zeros : (c m : ℕ) → drop c (replicate m 0) ≡ replicate {A = ℕ} (m - c) 0
drop_zeros zero m = simp unary_clauses refl
drop_zeros (suc c) zero =
    let e : 0 - suc c ≡ 0 = omega arith in
    rw e
drop_zeros (suc c) (suc m) = simp unary_clauses (drop_zeros c m)

-- words that were filled with zeros, from word p on
zeros_in : (p m c k : ℕ) (z ws : List ℕ) → z ≡ put_at p (replicate m 0) ws → p + m ≤ length ws → c + k ≤ m → part (p + c) k z ≡ replicate k 0
unfolding part
zeros_in p m c k z ws ez g h =
    let l : length (replicate {A = ℕ} m 0) ≡ m = length-replicate {A = ℕ} m 0 in
    let whole : part p m z ≡ replicate m 0 = rw ez (ap (λ (y : ℕ). part p y (put_at p (replicate m 0) ws)) (sym l) ∙ part_same p (replicate m 0) ws (omega arith)) in
    sym (part_part p m c k z h) ∙ ap (part c k) whole ∙ rw (drop_zeros c m) (take_zeros k (m - c) (omega arith))

-- one empty slot more
clear_turn : (s p i w : ℕ) (now last ws : List ℕ) → 0 < s → w ≡ p + i * s → w + s ≤ length ws → now ≡ put_at p (flat (empty_slots s i)) ws → last ≡ put_at w (empty_slot s) now
    → last ≡ put_at p (flat (empty_slots s (i + 1))) ws
clear_turn s p i w now last ws h hw g en el =
    let l : length (flat (empty_slots s i)) ≡ i * s = length_flat s (empty_slots s i) (empty_wide s i h) ∙ ap (λ (k : ℕ). k * s) (length-replicate i (empty_slot s)) in
    let e : flat (empty_slots s (i + 1)) ≡ flat (empty_slots s i) ++ empty_slot s = rw (← replicate-append-replicate i 1 (empty_slot s), flat_append, flat_one) in
    let d = length_empty s h in
    rw (el, en, e) (put_next p w (flat (empty_slots s i)) (empty_slot s) ws (omega arith) (omega arith))

-- the words z, where zeros stand from p on: then the children are written, and the lengths are 0 already
module _ (s p n : ℕ) (z ws : List ℕ) (h : 0 < s) (ez : z ≡ put_at p (replicate (p + n * s - p) 0) ws) (g : p + n * s ≤ length ws) where
  zeroed : z ≡ put_at p (replicate (n * s) 0) ws
  zeroed =
      let e : p + n * s - p ≡ n * s = omega arith in
      rw e at ez

  wide : (i : ℕ) → length (flat (empty_slots s i)) ≡ i * s
  wide i = length_flat s (empty_slots s i) (empty_wide s i h) ∙ ap (λ (k : ℕ). k * s) (length-replicate i (empty_slot s))

  pub child_turn : (i : ℕ) (now : List ℕ) → i < n → length now ≡ length z → now ≡ put_at p (flat (empty_slots s i)) z → set now (p + i * s) none ≡ put_at p (flat (empty_slots s (i + 1))) z
  child_turn i now hi ln en =
      let w : ℕ = p + i * s in
      let m : length (replicate {A = ℕ} (n * s) 0) ≡ n * s = length-replicate {A = ℕ} (n * s) 0 in
      let lz : length z ≡ length ws = ap length zeroed ∙ length_put p (replicate (n * s) 0) ws (omega arith) in
      let r : i * s + s ≤ n * s = row_end i n s hi in
      let l : length (flat (empty_slots s i)) ≡ i * s = wide i in
      let q : w + 1 ≡ p + (i * s + 1) = omega arith in
      let zs : part (w + 1) (s - 1) now ≡ replicate (s - 1) 0 =
      rw (en, part_after (w + 1) (s - 1) p (flat (empty_slots s i)) z (omega arith) (omega arith), q) (zeros_in p (n * s) (i * s + 1) (s - 1) z ws zeroed g (omega arith)) in
      let f : w + s - (w + 1) ≡ s - 1 = omega arith in
      let same : now ≡ put_at (w + 1) (replicate (w + s - (w + 1)) 0) now = rw (f, ← zs) (sym (put_same (w + 1) (s - 1) now (omega arith))) in
      clear_turn s p i w now _ z h refl (omega arith) en (empty_end w s (w + s) now now refl h (omega arith) same)

  pub clear_all : put_at p (flat (empty_slots s n)) z ≡ put_at p (flat (empty_slots s n)) ws
  clear_all =
      let l : length (flat (empty_slots s n)) ≡ n * s = wide n in
      let m : length (replicate {A = ℕ} (n * s) 0) ≡ n * s = length-replicate {A = ℕ} (n * s) 0 in
      rw zeroed (put_put p (replicate (n * s) 0) (flat (empty_slots s n)) ws (omega arith) (omega arith))
