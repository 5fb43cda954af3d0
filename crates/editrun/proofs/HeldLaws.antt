-- A block holds the input behind what it held, and `difference` doesn't tell the bytes that it holds from the input. Assumes nothing.
use Rattle.std.specs.Prelude.{Option, Some, None, Result, Ok, Err, IsErrAnd}
use mathlib.Core.Path.{◌≡◌, refl, sym, ap, ◌∙◌, subst}
use mathlib.Core.Logic.{◌≢◌}
use mathlib.Core.Bool.{Bool, true, false}
use mathlib.Core.List.{List, [], ◌++◌}
use Prim.Native.Nat.{ℕ, ◌+◌, ◌%◌, ◌<◌, ◌≤◌}
use native.Mathlib.Omega.{arith}
use lib.ListN.{length, take, drop, length-append}
use lib.Seq.{take_all, take-take, take-add, take-append-le, length-take-le}
use lib.Dec.{ltb, eqb}
use borrow.Author.Tests.{le-leb, lt-leb, ltb-true, ltb-false, eqb-true, eqb-false}
use Rattle.model.specs.Lists.{part}
use Rattle.model_laws.specs.Words.{length_part}
use Rattle.calls_edits.specs.Edits.{difference}
use Rattle.calls_edits.specs.Answered.{checks, differs}
use Rattle.editrun.specs.Held.{folded, InputHeld, Turned, HoldsInput}

-- how many bytes are held
pub folded_less : (n : ℕ) → n < 8208 → n ≡ folded n
unfolding folded
folded_less n h = rw (lt-leb 8208 n h)

pub folded_more : (n : ℕ) → 8208 ≤ n → 8208 + n % 16 ≡ folded n
unfolding folded
folded_more n h = rw (le-leb 8208 n h)

module _ (n : ℕ) where
  -- in both cases
  by_size : (P : ℕ → Type 0) → (n < 8208 → P n) → (8208 ≤ n → P (8208 + n % 16)) → P (folded n)
  by_size P f g = go (ltb n 8208) refl
    where
      go : (b : Bool) → ltb n 8208 ≡ b → P (folded n)
      go true q = let h : n < 8208 = ltb-true n 8208 q in subst P (folded_less n h) (f h)
      go false q = let h : 8208 ≤ n = ltb-false n 8208 q in subst P (folded_more n h) (g h)

  folded_le : folded n ≤ n
  folded_le = by_size (λ k. k ≤ n) (λ h. omega arith) (λ h. omega arith)

  folded_small : folded n ≤ 8223
  folded_small = by_size (λ k. k ≤ 8223) (λ h. omega arith) (λ h. omega arith)

  fold_add : (m : ℕ) → folded (folded n + m) ≡ folded (n + m)
  fold_add m = by_size (λ k. folded (k + m) ≡ folded (n + m)) (λ h. refl) (λ h. more h)
    where
      more : 8208 ≤ n → folded (8208 + n % 16 + m) ≡ folded (n + m)
      more h =
          let e : 8208 + (8208 + n % 16 + m) % 16 ≡ 8208 + (n + m) % 16 = omega arith in
          sym (folded_more (8208 + n % 16 + m) (omega arith)) ∙ (e ∙ folded_more (n + m) (omega arith))

  -- the first 513 records are held
  fold_front : (l : List ℕ) → take 8208 (take (folded n) l) ≡ take 8208 (take n l)
  fold_front l = by_size (λ k. take 8208 (take k l) ≡ take 8208 (take n l)) (λ h. refl)
      (λ h. take-take 8208 (8208 + n % 16) l (omega arith) ∙ sym (take-take 8208 n l (omega arith)))

module _ (input block : List ℕ) (have : ℕ) (held : InputHeld input block have) where
  pub held_small : have ≤ 8223
  held_small = subst (λ (k : ℕ). k ≤ 8223) (sym held.long) (folded_small (length input))

  long : length (take have block) ≡ have
  long = length-take-le have block held.room

  -- a file of at most 512 records and some bytes
  whole : length input < 8208 → take have block ≡ input
  whole h =
      let e : have ≡ length input = held.long ∙ sym (folded_less (length input) h) in
      sym (take_all 8208 (take have block) (omega (arith, long, e, h))) ∙ (held.front ∙ take_all 8208 input (omega arith))

  -- a longer one is refused by its length, whatever it holds
  module _ (many : 8208 ≤ length input) (area : List ℕ) (a b : ℕ) where
    kept : length (take have block) ≡ 8208 + length input % 16
    kept = long ∙ (held.long ∙ sym (folded_more (length input) many))

    by_length : (s t : Bool) → eqb (length input % 16) 0 ≡ s → ltb (length area) 512 ≡ t → difference (take have block) area a b ≡ difference input area a b
    by_length false t q r =
        let n : length input % 16 ≢ 0 = eqb-false (length input % 16) 0 q in
        let m : length (take have block) % 16 ≢ 0 = λ z. n (omega (arith, kept, z)) in
        (differs (take have block) area a b).cut m ∙ sym ((differs input area a b).cut n)
    by_length true true q r =
        let n : length input % 16 ≡ 0 = eqb-true (length input % 16) 0 q in
        let l : length area < 512 = ltb-true (length area) 512 r in
        (differs (take have block) area a b).narrow (omega (arith, kept, n)) l ∙ sym ((differs input area a b).narrow n l)
    by_length true false q r =
        let n : length input % 16 ≡ 0 = eqb-true (length input % 16) 0 q in
        let w : 512 ≤ length area = ltb-false (length area) 512 r in
        (differs (take have block) area a b).same w 16 ((checks (take have block)).crowded (omega (arith, kept, n)) (omega (arith, kept)))
        ∙ sym ((differs input area a b).same w 16 ((checks input).crowded n (omega arith)))

  pub as_whole : (area : List ℕ) (a b : ℕ) → difference (take have block) area a b ≡ difference input area a b
  as_whole area a b = go (ltb (length input) 8208) refl
    where
      go : (t : Bool) → ltb (length input) 8208 ≡ t → difference (take have block) area a b ≡ difference input area a b
      go true q = ap (λ (f : List ℕ). difference f area a b) (whole (ltb-true (length input) 8208 q))
      go false q = by_length (ltb-false (length input) 8208 q) area a b (eqb (length input % 16) 0) (ltb (length area) 512) refl refl

  -- n bytes more
  module _ (n : ℕ) (b : List ℕ) (same : take have b ≡ take have block) (room : have + n ≤ length b) where
    front_more : take 8208 (take (have + n) b) ≡ take 8208 (input ++ part have n b)
    unfolding part
    front_more = go (ltb (length input) 8208) refl
      where
        go : (t : Bool) → ltb (length input) 8208 ≡ t → take 8208 (take (have + n) b) ≡ take 8208 (input ++ take n (drop have b))
        go true q = ap (take 8208) (take-add have n b ∙ ap (λ (l : List ℕ). l ++ take n (drop have b)) (same ∙ whole (ltb-true (length input) 8208 q)))
        go false q =
            let l : 8208 ≤ length input = ltb-false (length input) 8208 q in
            let k : 8208 ≤ have = omega (arith, held.long ∙ sym (folded_more (length input) l)) in
            take-take 8208 (have + n) b (omega arith)
            ∙ (sym (take-take 8208 have b k) ∙ (ap (take 8208) same ∙ (held.front ∙ sym (take-append-le 8208 input (take n (drop have b)) l))))

    pub held_more : InputHeld (input ++ part have n b) b (folded (have + n))
    held_more = record {
      long = ap (λ (k : ℕ). folded (k + n)) held.long ∙ (fold_add (length input) n ∙ ap folded (sym (length-append input (part have n b) ∙ ap (λ (k : ℕ). length input + k) (length_part have n b room))));
      room = omega (arith, folded_le (have + n));
      front = fold_front (have + n) b ∙ front_more;
    }

-- the loop
pub held_none : (block : List ℕ) → HoldsInput block 0
unfolding folded
held_none block = record { input = []; held = record { long = refl; room = omega arith; front = refl } }

pub turned_more : {E : Type 0} (r : Result (Option ℕ) E) (block : List ℕ) (kept : ℕ) (b : List ℕ) → Turned r block kept b → (have : ℕ) → r ≡ Ok (Some have) → HoldsInput block kept → HoldsInput b have
turned_more {E} r block kept b turned have e h =
    let t = subst (λ (x : Result (Option ℕ) E). Turned x block kept b) e turned in
    record { input = h.input ++ part kept t.0 b; held = t.2 h.input h.held }

pub turned_end : {E : Type 0} (r : Result (Option ℕ) E) (block : List ℕ) (kept : ℕ) (b : List ℕ) → Turned r block kept b → r ≡ Ok None → HoldsInput block kept → HoldsInput b kept
turned_end {E} r block kept b turned e h =
    let t = subst (λ (x : Result (Option ℕ) E). Turned x block kept b) e turned in
    record { input = h.input; held = record { long = h.held.long; room = t.1; front = ap (take 8208) t.0 ∙ h.held.front } }

-- of a read that failed nothing is said
pub turned_none : {E : Type 0} (P : E → Type 0) (r : Result (Option ℕ) E) (block : List ℕ) (kept : ℕ) (b : List ℕ) → IsErrAnd r P → Turned r block kept b
turned_none P (Ok x) block have b f = absurd f
turned_none P (Err e) block have b f = tt
