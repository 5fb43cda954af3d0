-- The lines of a list, one behind the other, and what is printed of a difference. Assumes nothing.
use Rattle.model.specs.Numbered.{Numbered}
use Rattle.std.specs.Prelude.{Ok, Err}
use mathlib.Core.Path.{◌≡◌, refl, sym, ap, ap₂, ◌∙◌, subst}
use mathlib.Core.List.{List, [], ◌∷◌, ◌++◌, append_assoc, append-nil}
use Prim.Native.Nat.{ℕ, ◌+◌, ◌*◌, ◌<◌, ◌≤◌}
use native.Mathlib.Omega.{arith}
use native.Mathlib.Numerals.{add-one}
use lib.ListN.{length, get_or, take, length-take}
use lib.Seq.{take-suc}
use Rattle.model.specs.Numeral.{decimal}
use Rattle.calls_edits.specs.Edits.{difference}
use Rattle.calls_edits.specs.Promised.{Listed}
use Rattle.calls_edits.specs.Answered.{differs}
use Rattle.list_stream.specs.Text.{put}
use Rattle.list_stream.proofs.TextLaws.{put_more, put_nil}
use Rattle.editrun.specs.Held.{InputHeld, HoldsInput}
use Rattle.editrun.specs.Printed.{lines, Printed, Answered}
use Rattle.editrun.proofs.HeldLaws.{as_whole}

lines_append : (xs ys : List ℕ) → lines (xs ++ ys) ≡ lines xs ++ lines ys
unfolding lines
lines_append [] ys = refl
lines_append (x ∷ xs) ys = ap (λ (l : List ℕ). (decimal x ++ (10 ∷ [])) ++ l) (lines_append xs ys) ∙ sym (append_assoc (decimal x ++ (10 ∷ [])) (lines xs) (lines ys))

one_line : (k : ℕ) → lines (k ∷ []) ≡ decimal k ++ (10 ∷ [])
unfolding lines
one_line k = append-nil (decimal k ++ (10 ∷ []))

-- one line more
pub line_more : (area out o p : List ℕ) (i end next : ℕ) → i < length area → (end, o) ≡ put out 0 (lines (take i area)) → (next, p) ≡ put o end (decimal (get_or area i 0) ++ (10 ∷ []))
    → (next, p) ≡ put out 0 (lines (take (i + 1) area))
line_more area out o p i end next h e f =
    let s : take (i + 1) area ≡ take i area ++ (get_or area i 0 ∷ []) = ap (λ (k : ℕ). take k area) (add-one i) ∙ take-suc area i 0 h in
    f
    ∙ (put_more out o 0 end (lines (take i area)) (decimal (get_or area i 0) ++ (10 ∷ [])) e
    ∙ ap (put out 0) (ap (λ (l : List ℕ). lines (take i area) ++ l) (sym (one_line (get_or area i 0))) ∙ (sym (lines_append (take i area) (get_or area i 0 ∷ [])) ∙ ap lines (sym s))))

pub no_line : (area out : List ℕ) → (0, out) ≡ put out 0 (lines (take 0 area))
unfolding lines
no_line area out = sym (put_nil out 0)

-- a front as long as it says lies in the list
in_front : (n : ℕ) (l ks : List ℕ) → take n l ≡ ks → n ≡ length ks → n ≤ length l
in_front n l ks e h = omega (arith, ap length e, length-take n l, h)

-- the call on the bytes that the block holds
module _ (block : List ℕ) (have : ℕ) (area : List ℕ) (a b : ℕ) (r : Numbered ℕ) (new : List ℕ) (e : (r, new) ≡ difference (take have block) area a b) where
  -- the list fits the area
  count_in : (n : ℕ) → r ≡ Ok n → (n ≤ length new) × (length new ≡ length area)
  count_in n d =
      let s : (difference (take have block) area a b).0 ≡ Ok n = sym (ap (λ (x : Numbered ℕ × List ℕ). x.0) e) ∙ d in
      let t = (differs (take have block) area a b).listed n s in
      go n t
    where
      after : new ≡ (difference (take have block) area a b).1
      after = ap (λ (x : Numbered ℕ × List ℕ). x.1) e

      go : (n : ℕ) → Listed (take have block) area a b n (difference (take have block) area a b).1 → (n ≤ length new) × (length new ≡ length area)
      go n t = (rw after (in_front n (difference (take have block) area a b).1 t.list t.front t.count), ap length after ∙ t.long)

  pub lines_fit : (n : ℕ) → r ≡ Ok n → length area ≡ 512 → (out : List ℕ) → 5632 ≤ length out → (n ≤ length new) × (11 * n ≤ length out)
  lines_fit n d l out h = ((count_in n d).0, omega (arith, (count_in n d).0, (count_in n d).1, l, h))

  module _ (input : List ℕ) (held : InputHeld input block have) where
    on_input : (r, new) ≡ difference input area a b
    on_input = e ∙ as_whole input block have held area a b

    pub is_printed : (n end : ℕ) (out o : List ℕ) → r ≡ Ok n → (end, o) ≡ put out 0 (lines (take n new)) → end ≤ length o → Printed input a b area out end o
    is_printed n end out o d p l =
        let s : (difference input area a b).0 ≡ Ok n = sym (ap (λ (x : Numbered ℕ × List ℕ). x.0) on_input) ∙ d in
        let t = (differs input area a b).listed n s in
        let f : take n new ≡ t.list = ap (λ (x : Numbered ℕ × List ℕ). take n x.1) on_input ∙ t.front in
        record { list = t.list; reply = s ∙ ap Ok t.count; exactly = t.exactly; text = p ∙ ap (λ (ks : List ℕ). put out 0 (lines ks)) f; inside = l }

    pub is_refused : (n : ℕ) → r ≡ Err n → difference input area a b ≡ (Err n, area)
    is_refused n d =
        let s : (difference input area a b).0 ≡ Err n = sym (ap (λ (x : Numbered ℕ × List ℕ). x.0) on_input) ∙ d in
        both (difference input area a b) s ((differs input area a b).refused n s).0
      where
        both : (x : Numbered ℕ × List ℕ) → x.0 ≡ Err n → x.1 ≡ area → x ≡ (Err n, area)
        both x p q = ap₂ (λ (y : Numbered ℕ) (z : List ℕ). (y, z)) p q

pub shown_in : (r : Numbered ℕ) (block : List ℕ) (have a b : ℕ) (area out o : List ℕ) → ((input : List ℕ) → InputHeld input block have → Answered r input a b area out o) → HoldsInput block have
    → (end : ℕ) → r ≡ Ok end → end ≤ length o
shown_in r block have a b area out o f h end e =
    let t = subst (λ (x : Numbered ℕ). Answered x h.input a b area out o) e (f h.input h.held) in
    t.inside
