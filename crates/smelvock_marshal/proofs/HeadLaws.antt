-- The head's words: tested, and written one after the other. Assumes nothing.
use Rattle.std.specs.Prelude.{Option}
use mathlib.Core.Path.{◌≡◌, refl, sym, ap, ap₂, subst, ◌∙◌}
use mathlib.Core.Bool.{Bool, true, false, cond, not, ◌&&◌, ◌||◌}
use mathlib.Core.List.{List, [], ◌∷◌, ◌++◌}
use Prim.Native.Nat.{ℕ, suc, ◌+◌, ◌*◌, ◌≤◌, ◌<◌, ◌/◌, ◌%◌}
use native.Mathlib.Omega.{arith}
use lib.ListN.{length, get_or, take, drop, replicate}
use lib.Seq.{sets, drop-cons, drop-drop}
use lib.Dec.{ltb, eqb}
use borrow.Author.Tests.{eq-eqb, ne_eqb, eqb-true, ltb-true, ltb-false}
use Rattle.model.specs.Place.{with_finger}
use Rattle.model.specs.declared.head.Head.{Head}
use Rattle.model.specs.declared.head.Finger.{Finger}
use Rattle.smelvock_marshal.specs.Flat.{bad_at, bad_head, bad_seats, bad_stored, bad_shares, head_from, head_words, head_after, stamp_from, count_words, finger_words, stamp_words, present_of, finger_of, InLeaf}

-- whether the words are good
pub bad_length : (i : ℕ) (w : List ℕ) → (length w ≡ 36 → ⊥) → true ≡ bad_at i w
bad_length i w d = sym (ap (λ (t : Bool). not t || ltb 1 (get_or w i 0)) (ne_eqb (length w) 36 d))

pub flag_test : (i : ℕ) (w : List ℕ) → length w ≡ 36 → ltb 1 (get_or w i 0) ≡ bad_at i w
flag_test i w e = sym (ap (λ (t : Bool). not t || ltb 1 (get_or w i 0)) (eq-eqb (length w) 36 e))

pub seats_test : (w : List ℕ) (t : Bool) → t ≡ bad_head w → t ≡ false → ltb 1 (get_or w 19 0) ≡ bad_seats w
unfolding bad_seats
seats_test w t e h = sym (ap (λ (q : Bool). q || ltb 1 (get_or w 19 0)) (sym e ∙ h))

pub seats_bad : (w : List ℕ) (t : Bool) → t ≡ bad_head w → t ≡ true → true ≡ bad_seats w
unfolding bad_seats
seats_bad w t e h = sym (ap (λ (q : Bool). q || ltb 1 (get_or w 19 0)) (sym e ∙ h))

or_first : (a b : Bool) → (a || b) ≡ false → a ≡ false
or_first true b e = e
or_first false b e = refl

not_first : (a b : Bool) → (not a || b) ≡ false → a ≡ true
not_first true b e = refl
not_first false b e = sym e

or_last : (a b : Bool) → (a || b) ≡ false → b ≡ false
or_last true true e = e
or_last true false e = refl
or_last false b e = e

eight : (a : Bool) → not a ≡ false → a ≡ true
eight true e = refl
eight false e = sym e

good_at : (i : ℕ) (w : List ℕ) → bad_at i w ≡ false → length w ≡ 36
good_at i w e = eqb-true (length w) 36 (not_first (eqb (length w) 36) (ltb 1 (get_or w i 0)) e)

pub good_head : (w : List ℕ) → bad_head w ≡ false → length w ≡ 36
unfolding bad_head
good_head w e = good_at 7 w e

pub good_stored : (w : List ℕ) → bad_stored w ≡ false → length w ≡ 36
unfolding bad_stored
good_stored w e = good_at 19 w e

pub good_flag : (w : List ℕ) (t : Bool) → (bad_head w || t) ≡ false → length w ≡ 36
good_flag w t e = good_head w (or_first (bad_head w) t e)

pub good_present : (w : List ℕ) (t : Bool) → (bad_head w || t) ≡ false → get_or w 7 0 ≤ 1
unfolding bad_head
good_present w t e = let z = ltb-false 1 (get_or w 7 0) (or_last (not (eqb (length w) 36)) (ltb 1 (get_or w 7 0)) (or_first (bad_head w) t e)) in omega (arith, z)

-- a good head with good seats
pub good_seats : (w : List ℕ) → bad_seats w ≡ false → (length w ≡ 36) × (get_or w 19 0 ≤ 1)
unfolding bad_seats
good_seats w e = (
  good_flag w (ltb 1 (get_or w 19 0)) e,
  (let z = ltb-false 1 (get_or w 19 0) (or_last (bad_head w) (ltb 1 (get_or w 19 0)) e) in omega (arith, z)),
)

pub good_seated_flag : (w : List ℕ) (t : Bool) → (bad_seats w || t) ≡ false → (length w ≡ 36) × (get_or w 19 0 ≤ 1)
good_seated_flag w t e = good_seats w (or_first (bad_seats w) t e)

-- the words and the shares of a new tree
pub good_made : (w shares : List ℕ) → (not (eqb (length w) 36) || bad_shares shares) ≡ false → (length w ≡ 36) × ((length shares ≡ 0 → ⊥) → length shares ≡ 8)
unfolding bad_shares
good_made w shares e = (
  eqb-true (length w) 36 (not_first (eqb (length w) 36) (bad_shares shares) e),
  λ z. eqb-true (length shares) 8 (eight (eqb (length shares) 8) (sym (ap (λ (t : Bool). not t && not (eqb (length shares) 8)) (ne_eqb (length shares) 0 z)) ∙ or_last (not (eqb (length w) 36)) (bad_shares shares) e)),
)

abbrev ten : ℕ → Finger → List ℕ
ten present f =
    present ∷ f.view ∷ f.leaf ∷ f.start ∷ f.effect ∷ f.slot ∷ f.within ∷ f.effect_within ∷ f.prepare ∷ f.prepare_within ∷ []

-- the first seventeen words one by one
cell : (w : List ℕ) (i : ℕ) (r : List ℕ) → length w ≡ 36 → ltb i 36 ≡ true → drop (suc i) w ≡ r → drop i w ≡ get_or w i 0 ∷ r
cell w i r e t q = drop-cons w i 0 (subst (λ (n : ℕ). i < n) (sym e) (ltb-true i 36 t)) ∙ ap (λ (x : List ℕ). get_or w i 0 ∷ x) q

abbrev seven_of : List ℕ → List ℕ → List ℕ
seven_of w r = get_or w 0 0 ∷ get_or w 1 0 ∷ get_or w 2 0 ∷ get_or w 3 0 ∷ get_or w 4 0 ∷ get_or w 5 0 ∷ get_or w 6 0 ∷ r

abbrev spelled : List ℕ → List ℕ
spelled w =
    seven_of w (get_or w 7 0 ∷ get_or w 8 0 ∷ get_or w 9 0 ∷ get_or w 10 0 ∷ get_or w 11 0 ∷ get_or w 12 0 ∷ get_or w 13 0 ∷ get_or w 14 0 ∷ get_or w 15 0 ∷ get_or w 16 0 ∷ drop 17 w)

words_spelled : (w : List ℕ) → length w ≡ 36 → w ≡ spelled w
words_spelled w e =
    let c : (i : ℕ) (r : List ℕ) → ltb i 36 ≡ true → drop (suc i) w ≡ r → drop i w ≡ get_or w i 0 ∷ r = λ i r t q. cell w i r e t q in
    c 0 _ refl (c 1 _ refl (c 2 _ refl (c 3 _ refl (c 4 _ refl (c 5 _ refl (c 6 _ refl (c 7 _ refl (c 8 _ refl (c 9 _ refl (c 10 _ refl (c 11 _ refl (c 12 _ refl (c 13 _ refl (c 14 _ refl (c 15 _ refl (c 16 _ refl refl))))))))))))))))

-- a finger's slot written, and its leaf; the latter may be as it was
abbrev slotted : Finger → List ℕ → List ℕ
slotted f w = sets (sets w 12 (f.slot ∷ f.within ∷ f.effect_within ∷ [])) 16 (f.prepare_within ∷ [])

abbrev leafed : ℕ → Finger → List ℕ → List ℕ
leafed present f w = sets (sets w 7 (present ∷ f.view ∷ f.leaf ∷ f.start ∷ f.effect ∷ [])) 15 (f.prepare ∷ [])

module _ (w : List ℕ) (t : Option Finger) (present : ℕ) (f : Finger) (e : length w ≡ 36) (p : present ≡ present_of t) (q : f ≡ finger_of t) (u : List ℕ) (eu : u ≡ slotted f w) where
  pub leaf_written : leafed present f u ≡ take 7 w ++ finger_words t ++ drop 17 w
  leaf_written =
      ap (leafed present f) eu
      ∙ subst (λ (x : List ℕ). leafed present f (slotted f x) ≡ take 7 x ++ ten present f ++ drop 17 x) (sym (words_spelled w e)) refl
      ∙ ap₂ (λ (n : ℕ) (g : Finger). take 7 w ++ ten n g ++ drop 17 w) p q

  pub slot_written : InLeaf t w → u ≡ take 7 w ++ finger_words t ++ drop 17 w
  slot_written h =
      eu
      ∙ subst (λ (x : List ℕ). slotted f x ≡ take 7 x ++ (get_or w 7 0 ∷ get_or w 8 0 ∷ get_or w 9 0 ∷ get_or w 10 0 ∷ get_or w 11 0 ∷ f.slot ∷ f.within ∷ f.effect_within ∷ get_or w 15 0 ∷ f.prepare_within ∷ []) ++ drop 17 x) (sym (words_spelled w e)) refl
      ∙ rw (q, h.present, h.view, h.leaf, h.start, h.effect, h.prepare)

-- the low word of a stamp and its high one, which a word each are
low_word : (l n : ℕ) → l < 4294967296 → (l + 4294967296 * n) % 4294967296 ≡ l
low_word l n h = omega (arith, h)

high_word : (l n : ℕ) → l < 4294967296 → (l + 4294967296 * n) / 4294967296 ≡ n
high_word l n h = omega (arith, h)

stamp_read : (w : List ℕ) → length w ≡ 36 → get_or w 17 0 < 4294967296 → drop 17 w ≡ stamp_words (stamp_from w) ++ drop 19 w
stamp_read w e h =
    drop-cons w 17 0 (omega (arith, e))
    ∙ ap (λ (r : List ℕ). get_or w 17 0 ∷ r) (drop-cons w 18 0 (omega (arith, e)))
    ∙ sym (ap₂ (λ (l n : ℕ). l ∷ n ∷ drop 19 w) (low_word (get_or w 17 0) (get_or w 18 0) h) (high_word (get_or w 17 0) (get_or w 18 0) h))

-- fan and limit in front, the counts behind them, the finger and the stamp are the head's words; the seats' words stay
module _ (h : Head) where
  abbrev fingered : List ℕ → List ℕ
  fingered v = take 7 v ++ finger_words h.finger ++ drop 17 v

  abbrev stamped : List ℕ → List ℕ
  stamped u = take 17 u ++ stamp_words h.stamp ++ drop 19 u

  -- r: the words behind the counts
  after_counts : (p r v u x : List ℕ) → p ≡ h.fan ∷ h.limit ∷ [] → v ≡ p ++ count_words h ++ r → u ≡ fingered v → x ≡ stamped u → x ≡ head_words h ++ drop 12 r
  unfolding head_words
  after_counts p r v u x ep ev eu ex =
      ex ∙ ap stamped (eu ∙ ap fingered (ev ∙ ap (λ (q : List ℕ). q ++ count_words h ++ r) ep)) ∙ ap (λ (q : List ℕ). head_words h ++ q) (drop-drop 2 10 r)

  new_front : (w : List ℕ) → length w ≡ 36 → take 2 (sets w 0 (h.fan ∷ h.limit ∷ [])) ≡ h.fan ∷ h.limit ∷ []
  new_front [] e = absurd (omega (arith, e))
  new_front (x ∷ []) e = absurd (omega (arith, e))
  new_front (x ∷ y ∷ w) e = refl

  new_rest : (w : List ℕ) → length w ≡ 36 → drop 12 (drop 7 (sets w 0 (h.fan ∷ h.limit ∷ []))) ≡ drop 19 w
  new_rest [] e = absurd (omega (arith, e))
  new_rest (x ∷ []) e = absurd (omega (arith, e))
  new_rest (x ∷ y ∷ w) e = drop-drop 12 5 w

  old_front : (w : List ℕ) → length w ≡ 36 → h.fan ≡ get_or w 0 0 → h.limit ≡ get_or w 1 0 → take 2 w ≡ h.fan ∷ h.limit ∷ []
  old_front [] e a b = absurd (omega (arith, e))
  old_front (x ∷ []) e a b = absurd (omega (arith, e))
  old_front (x ∷ y ∷ w) e a b = ap₂ (λ (m n : ℕ). m ∷ n ∷ []) (sym a) (sym b)

  -- all written; all but fan and limit; the finger alone, where the low word of the stamp is one
  pub put_whole : (w v u x : List ℕ) → length w ≡ 36 → (let z = sets w 0 (h.fan ∷ h.limit ∷ []) in v ≡ take 2 z ++ count_words h ++ drop 7 z)
      → u ≡ fingered v → x ≡ stamped u → x ≡ head_words h ++ drop 19 w
  put_whole w v u x e ev eu ex =
      let z = sets w 0 (h.fan ∷ h.limit ∷ []) in
      after_counts (take 2 z) (drop 7 z) v u x (new_front w e) ev eu ex ∙ ap (λ (q : List ℕ). head_words h ++ q) (new_rest w e)

  pub put_grown : (w v u x : List ℕ) → length w ≡ 36 → h.fan ≡ get_or w 0 0 → h.limit ≡ get_or w 1 0 → v ≡ take 2 w ++ count_words h ++ drop 7 w
      → u ≡ fingered v → x ≡ stamped u → x ≡ head_words h ++ drop 19 w
  put_grown w v u x e a b ev eu ex =
      after_counts (take 2 w) (drop 7 w) v u x (old_front w e a b) ev eu ex ∙ ap (λ (q : List ℕ). head_words h ++ q) (drop-drop 12 7 w)

  -- all written, and the seats cleared
  pub unseated : (w v u : List ℕ) → v ≡ head_words h ++ drop 19 w → u ≡ take 19 v ++ replicate 17 0 → u ≡ head_words h ++ replicate 17 0
  unfolding head_words
  unseated w v u ev eu = eu ∙ ap (λ (q : List ℕ). take 19 q ++ replicate 17 0) ev

  seven : (w : List ℕ) → length w ≡ 36 → take 7 w ≡ get_or w 0 0 ∷ get_or w 1 0 ∷ get_or w 2 0 ∷ get_or w 3 0 ∷ get_or w 4 0 ∷ get_or w 5 0 ∷ get_or w 6 0 ∷ []
  seven [] e = absurd (omega (arith, e))
  seven (a ∷ []) e = absurd (omega (arith, e))
  seven (a ∷ b ∷ []) e = absurd (omega (arith, e))
  seven (a ∷ b ∷ c ∷ []) e = absurd (omega (arith, e))
  seven (a ∷ b ∷ c ∷ d ∷ []) e = absurd (omega (arith, e))
  seven (a ∷ b ∷ c ∷ d ∷ f ∷ []) e = absurd (omega (arith, e))
  seven (a ∷ b ∷ c ∷ d ∷ f ∷ g ∷ []) e = absurd (omega (arith, e))
  seven (a ∷ b ∷ c ∷ d ∷ f ∷ g ∷ i ∷ w) e = refl

  pub put_fingered : (w u : List ℕ) → length w ≡ 36 → get_or w 17 0 < 4294967296 → h ≡ with_finger h.finger (head_from w) → u ≡ fingered w → u ≡ head_words h ++ drop 19 w
  unfolding head_words head_from
  put_fingered w u e l eh eu =
      eu ∙ ap₂ (λ (v x : List ℕ). v ++ finger_words h.finger ++ x) (seven w e) (stamp_read w e l) ∙ sym (ap (λ (k : Head). head_words k ++ drop 19 w) eh)

-- a call's number decides whether they are
module _ (number : ℕ) (h : Head) (w : List ℕ) where
  pub after_done : (v : List ℕ) → number ≡ 0 → v ≡ head_words h ++ drop 19 w → v ≡ head_after number h w
  unfolding head_after
  after_done v e d = d ∙ sym (ap (λ (t : Bool). cond t (head_words h ++ drop 19 w) w) (eq-eqb number 0 e))

  pub after_refused : (number ≡ 0 → ⊥) → w ≡ head_after number h w
  unfolding head_after
  after_refused d = sym (ap (λ (t : Bool). cond t (head_words h ++ drop 19 w) w) (ne_eqb number 0 d))
