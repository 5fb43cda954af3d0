-- One step of each walk over a node's slots: sums, the slot of a position, the slot of a child. Assumes nothing.
use Rattle.std.specs.Prelude.{◌≡◌, refl, List, [], ◌∷◌, length, get_or, take, drop, set, Some, None}
use Rattle.std.proofs.Common.{sym, ap, ◌∙◌, arith, add-zero, drop_of_length-le}
use Prim.Native.Nat.{ℕ, zero, suc, ◌+◌, ◌-◌, ◌*◌, ◌%◌, ◌^◌, ◌<◌, ◌≤◌}
use borrow.Author.Tests.{lt-ltb, le-ltb, eq-eqb, ne_eqb}
use Rattle.model.specs.Lists.{part, sum_by}
use Rattle.model.specs.Kind.{prepare}
use Rattle.model.specs.Node.{slots_from, total, totals_from, wrap, find_from, index_from}
use Rattle.model_laws.specs.Lists.{sum_append}
use Rattle.model_laws.specs.Words.{get_d_part}
use Rattle.model_laws.specs.Slots.{slots_length, slots_add, slots_from_law}

-- one slot more in a sum
pub total_none : (s p v : ℕ) (ws : List ℕ) → total v (slots_from s 0 p ws) ≡ 0
unfolding slots_from sum_by
total_none s p v ws = refl

pub total_more : (s n p v q sum w : ℕ) (ws : List ℕ) → v + 1 < s → q ≡ p + n * s + (v + 1) → sum ≡ total v (slots_from s n p ws) → w ≡ get_or ws q 0
    → sum + w ≡ total v (slots_from s (n + 1) p ws)
unfolding slots_from sum_by
total_more s n p v q sum w ws h hq hs hw = rw (slots_add, sum_append, get_d_part (p + n * s) s (v + 1) ws h, add-zero, hs, hw, hq)

-- the same modulo 2 ^ 32
pub low_none : (s p v : ℕ) (ws : List ℕ) → 0 ≡ wrap (total v (slots_from s 0 p ws))
low_none s p v ws = rw (total_none s p v ws)

pub low_more : (s n p v q sum w : ℕ) (ws : List ℕ) → v + 1 < s → q ≡ p + n * s + (v + 1) → sum ≡ wrap (total v (slots_from s n p ws)) → w ≡ get_or ws q 0
    → (sum + w) % 2 ^ 32 ≡ wrap (total v (slots_from s (n + 1) p ws))
low_more s n p v q sum w ws h hq hs hw =
    let t : total v (slots_from s n p ws) + w ≡ total v (slots_from s (n + 1) p ws) = total_more s n p v q (total v (slots_from s n p ws)) w ws h hq refl hw in
    omega (arith, hs, t)

-- past the last slot
pub past : (s n k p : ℕ) (ws : List ℕ) → n ≤ k → drop k (slots_from s n p ws) ≡ []
past s n k p ws h = drop_of_length-le (slots_from s n p ws) {i = k} (rw slots_length h)

-- a position is in slot k, or further on, or in none: q is the word of slot k's first length
module _ (s n p v e k index a b q : ℕ) (ws : List ℕ) (hv : v + 1 < s) (he : e + 1 < s) (hq : q ≡ p + k * s + 1) (hk : k < n) where
  word : (c : ℕ) → c + 1 < s → get_or (part (p + k * s) s ws) (c + 1) 0 ≡ get_or ws (q + c) 0
  word c h =
      let f : p + k * s + (c + 1) ≡ q + c = omega arith in
      get_d_part (p + k * s) s (c + 1) ws h ∙ ap (λ (j : ℕ). get_or ws j 0) f

  word_first : get_or (part (p + k * s) s ws) (prepare + 1) 0 ≡ get_or ws q 0
  word_first = word prepare (omega arith) ∙ ap (λ (j : ℕ). get_or ws j 0) (add-zero q)

  pub find_here : index < get_or ws (q + v) 0 → find_from v e k index a b (drop k (slots_from s n p ws)) ≡ Some (k, index, a, b)
  unfolding find_from
  find_here h = rw (slots_from_law s n k p ws hk, word v hv, lt-ltb index (get_or ws (q + v) 0) h)

  pub find_on : get_or ws (q + v) 0 ≤ index
      → find_from v e k index a b (drop k (slots_from s n p ws)) ≡ find_from v e (k + 1) (index - get_or ws (q + v) 0) (a + get_or ws (q + e) 0) (b + get_or ws q 0) (drop (k + 1) (slots_from s n p ws))
  unfolding find_from
  find_on h = rw (slots_from_law s n k p ws hk, word v hv, word e he, word_first, le-ltb index (get_or ws (q + v) 0) h)

pub find_none : (s n p v e k index a b : ℕ) (ws : List ℕ) → n ≤ k → find_from v e k index a b (drop k (slots_from s n p ws)) ≡ None
unfolding find_from
find_none s n p v e k index a b ws h = rw (past s n k p ws h)

-- a child is in slot k, or further on, or in none: q is the word of slot k's child
module _ (s n p c k q : ℕ) (ws : List ℕ) (hs : 0 < s) (hq : q ≡ p + k * s) (hk : k < n) where
  held : get_or (part (p + k * s) s ws) 0 0 ≡ get_or ws q 0
  held = get_d_part (p + k * s) s 0 ws hs ∙ ap (λ (j : ℕ). get_or ws j 0) (add-zero (p + k * s) ∙ sym hq)

  pub index_here : get_or ws q 0 ≡ c → index_from c k (drop k (slots_from s n p ws)) ≡ Some k
  unfolding index_from
  index_here h = rw (slots_from_law s n k p ws hk, held, eq-eqb (get_or ws q 0) c h)

  pub index_on : (get_or ws q 0 ≡ c → ⊥) → index_from c k (drop k (slots_from s n p ws)) ≡ index_from c (k + 1) (drop (k + 1) (slots_from s n p ws))
  unfolding index_from
  index_on h = rw (slots_from_law s n k p ws hk, held, ne_eqb (get_or ws q 0) c h)

pub index_none : (s n p c k : ℕ) (ws : List ℕ) → n ≤ k → index_from c k (drop k (slots_from s n p ws)) ≡ None
unfolding index_from
index_none s n p c k ws h = rw (past s n k p ws h)

-- the slot for a node in four words, from the sums in the views that a slot has
module _ (k a b d : ℕ) (slots : List (List ℕ)) (ha : a ≡ wrap (total 0 slots)) where
  slot_wide : (s : ℕ) → 2 ≤ s → s ≤ 4 → (2 < s → b ≡ wrap (total 1 slots)) → (3 < s → d ≡ wrap (total 2 slots)) → take s (k ∷ a ∷ b ∷ d ∷ []) ≡ k ∷ totals_from (s - 1) 0 slots
  unfolding totals_from
  slot_wide zero h g hb hd = absurd (omega arith)
  slot_wide (suc zero) h g hb hd = absurd (omega arith)
  slot_wide (suc (suc zero)) h g hb hd = rw ha
  slot_wide (suc (suc (suc zero))) h g hb hd = rw (ha, hb (omega arith))
  slot_wide (suc (suc (suc (suc zero)))) h g hb hd = rw (ha, hb (omega arith), hd (omega arith))
  slot_wide (suc (suc (suc (suc (suc s))))) h g hb hd = absurd (omega arith)

  pub slot_written : (s : ℕ) (x : List ℕ) → length x ≡ 4 → 2 ≤ s → s ≤ 4 → (2 < s → b ≡ wrap (total 1 slots)) → (3 < s → d ≡ wrap (total 2 slots))
      → take s (set (set (set (set x 0 k) 1 a) 2 b) 3 d) ≡ k ∷ totals_from (s - 1) 0 slots
  slot_written s [] e h g hb hd = absurd (omega arith)
  slot_written s (u ∷ []) e h g hb hd = absurd (omega arith)
  slot_written s (u ∷ v ∷ []) e h g hb hd = absurd (omega arith)
  slot_written s (u ∷ v ∷ w ∷ []) e h g hb hd = absurd (omega arith)
  slot_written s (u ∷ v ∷ w ∷ z ∷ []) e h g hb hd = slot_wide s h g hb hd
  slot_written s (u ∷ v ∷ w ∷ z ∷ y ∷ x) e h g hb hd = absurd (omega arith)
