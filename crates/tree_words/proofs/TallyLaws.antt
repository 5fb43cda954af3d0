-- One turn of the writer, and the count at its end. Assumes nothing.
use mathlib.Core.Path.{◌≡◌, refl, sym, ap, ap₂, ◌∙◌}
use mathlib.Core.List.{List}
use Prim.Native.Nat.{ℕ, ◌+◌, ◌<◌, ◌≤◌}
use native.Mathlib.Omega.{arith}
use native.Mathlib.Numerals.{add-one}
use mathlib.Core.Bool.{Bool, true, false, not, cond}
use mir.Val.{bool_byte}
use lib.Dec.{eqb}
use lib.ListN.{length, get_or, take, set, length-set}
use lib.Seq.{length-take-le, take-suc, take_all}
use Rattle.model.specs.Lists.{put_at}
use Rattle.model_laws.specs.Words.{put_none, put_on, get_d_after}
use Rattle.model.specs.Repair.{apart, differ}
use Rattle.model_laws.specs.Differ.{differ_none, differ_set}
use Rattle.tree_words.specs.Tally.{tallied}

-- 1 exactly where two words differ
pub as_apart : (a b : ℕ) → bool_byte (not (eqb a b)) ≡ apart a b
as_apart a b = go (eqb a b)
  where
    go : (t : Bool) → bool_byte (not t) ≡ cond t 0 1
    go true = refl
    go false = refl

pub apart_small : (a b : ℕ) → apart a b ≤ 1
apart_small a b = go (eqb a b)
  where
    go : (t : Bool) → cond t 0 1 ≤ 1
    go true = omega arith
    go false = omega arith

-- i words written: the area and the count
pub record TallyDone (p i count : ℕ) (src ws now : List ℕ) : Type 0 where
  pub within : i ≤ length src
  pub as_long : length now ≡ length ws
  pub area : now ≡ put_at p (take i src) ws
  pub count_is : count ≡ differ ws now

pub none_done : (p : ℕ) (src ws : List ℕ) → TallyDone p 0 0 src ws ws
none_done p src ws = record { within = omega arith; as_long = refl; area = sym (put_none p ws); count_is = sym (differ_none ws) }

pub one_done : (p i count d : ℕ) (src ws now : List ℕ) → p + length src ≤ length ws → i < length src → TallyDone p i count src ws now → d ≡ apart (get_or now (p + i) 0) (get_or src i 0)
    → TallyDone p (i + 1) (count + d) src ws (set now (p + i) (get_or src i 0))
one_done p i count d src ws now h l r ed =
    let m : length (take i src) ≡ i = length-take-le i src (omega arith) in
    let o : get_or now (p + i) 0 ≡ get_or ws (p + i) 0 = ap (λ (z : List ℕ). get_or z (p + i) 0) r.area ∙ get_d_after p (p + i) (take i src) ws (omega arith) (omega arith) in
    let c : differ ws (set now (p + i) (get_or src i 0)) ≡ differ ws now + apart (get_or now (p + i) 0) (get_or src i 0) =
    differ_set ws now (p + i) (get_or src i 0) (sym r.as_long) (omega (arith, r.as_long)) o
    in
    record {
      within = omega arith;
      as_long = length-set now (p + i) (get_or src i 0) ∙ r.as_long;
      area = ap (λ (z : List ℕ). set z (p + i) (get_or src i 0)) r.area ∙ (put_on p (p + i) (get_or src i 0) (take i src) ws (omega arith) (omega arith) ∙ ap (λ (z : List ℕ). put_at p z ws) (sym (ap (λ (k : ℕ). take k src) (add-one i) ∙ take-suc src i 0 l)));
      count_is = omega (arith, c, r.count_is, ed);
    }

pub all_done : (p i count : ℕ) (src ws now : List ℕ) → length src ≤ i → TallyDone p i count src ws now → ◌≡◌ {A = ℕ × List ℕ} (count, now) (tallied p src ws)
unfolding tallied
all_done p i count src ws now h r =
    let a : now ≡ put_at p src ws = r.area ∙ ap (λ (z : List ℕ). put_at p z ws) (take_all i src h) in
    ap₂ (λ (x : ℕ) (y : List ℕ). (x, y)) (r.count_is ∙ ap (differ ws) a) a
