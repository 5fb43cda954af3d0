-- An argument's digits, one by one from the first. Assumes nothing.
use Rattle.std.specs.Prelude.{Option, Some, None}
use mathlib.Core.Path.{◌≡◌, sym, ap, ◌∙◌}
use mathlib.Core.Bool.{true, false}
use mathlib.Core.List.{List, ◌∷◌}
use Prim.Native.Nat.{ℕ, suc, ◌+◌, ◌-◌, ◌*◌, ◌^◌, ◌<◌, ◌≤◌}
use native.Mathlib.Numerals.{add-one}
use native.Mathlib.Omega.{arith}
use lib.ListN.{length, get_or, drop, drop_of_length-le}
use lib.Seq.{drop-cons}
use borrow.Author.Tests.{lt-ltb, le-ltb, le-leb, lt-leb}
use Rattle.list_stream.specs.Lines.{said_by}
use Rattle.editrun.specs.Asked.{digits, word, asked}

pub is_word : (n : ℕ) → n < 4294967296 → Some n ≡ word n
unfolding word
is_word n h = rw (lt-ltb n 4294967296 h)

pub no_word : (n : ℕ) → 4294967296 ≤ n → None ≡ word n
unfolding word
no_word n h = rw (le-ltb n 4294967296 h)

module _ (text : List ℕ) where
  pub empty : length text < 1 → None ≡ asked text
  unfolding asked
  empty h = rw (lt-leb 1 (length text) h)

  module _ (some : 1 ≤ length text) where
    pub long : 10 < length text → None ≡ asked text
    unfolding asked
    long h = rw (le-leb 1 (length text) some, lt-leb (length text) 10 h)

    module _ (short : length text ≤ 10) where
      pub no_digits : digits text ≡ false → None ≡ asked text
      unfolding asked
      no_digits h = rw (le-leb 1 (length text) some, le-leb (length text) 10 short, h)

      pub by_digits : (r : Option ℕ) (n : ℕ) → digits text ≡ true → n ≡ said_by 0 text → r ≡ word n → r ≡ asked text
      unfolding asked
      by_digits r n h e w = w ∙ rw (e, le-leb 1 (length text) some, le-leb (length text) 10 short, h)

  -- the digits from i on
  module _ (i : ℕ) (inside : i < length text) (same : digits (drop i text) ≡ digits text) where
    next : drop i text ≡ get_or text i 0 ∷ drop (suc i) text
    next = drop-cons text i 0 inside

    pub too_low : get_or text i 0 < 48 → digits text ≡ false
    unfolding digits
    too_low h = sym same ∙ (ap digits next ∙ rw (lt-leb 48 (get_or text i 0) h))

    pub too_high : 48 ≤ get_or text i 0 → 57 < get_or text i 0 → digits text ≡ false
    unfolding digits
    too_high h g = sym same ∙ (ap digits next ∙ rw (le-leb 48 (get_or text i 0) h, lt-leb (get_or text i 0) 57 g))

    module _ (n : ℕ) (said : said_by n (drop i text) ≡ said_by 0 text) (low : 48 ≤ get_or text i 0) (high : get_or text i 0 ≤ 57) where
      pub more_digits : digits (drop (i + 1) text) ≡ digits text
      unfolding digits
      more_digits = ap (λ (k : ℕ). digits (drop k text)) (add-one i) ∙ (sym (ap digits next ∙ rw (le-leb 48 (get_or text i 0) low, le-leb (get_or text i 0) 57 high)) ∙ same)

      pub more_said : said_by (n * 10 + (get_or text i 0 - 48)) (drop (i + 1) text) ≡ said_by 0 text
      unfolding said_by
      more_said = ap (λ (k : ℕ). said_by (n * 10 + (get_or text i 0 - 48)) (drop k text)) (add-one i) ∙ (sym (ap (said_by n) next) ∙ said)

  pub all_digits : (i : ℕ) → length text ≤ i → digits (drop i text) ≡ digits text → digits text ≡ true
  unfolding digits
  all_digits i h same = sym same ∙ ap digits (drop_of_length-le text {i = i} h)

  pub all_said : (i n : ℕ) → length text ≤ i → said_by n (drop i text) ≡ said_by 0 text → n ≡ said_by 0 text
  unfolding said_by
  all_said i n h said = sym (ap (said_by n) (drop_of_length-le text {i = i} h)) ∙ said

-- i digits say less than 10 ^ i
pub said_less : (n i b : ℕ) → n < 10 ^ i → b ≤ 57 → n * 10 + (b - 48) < 10 ^ (i + 1)
said_less n i b h g =
    let e : 10 ^ (i + 1) ≡ 10 ^ suc i = ap (λ (k : ℕ). 10 ^ k) (add-one i) in
    omega (arith, e, h, g)
