-- A run of words written as aimed, and one way after another. Assumes nothing.
use mathlib.Core.Path.{◌≡◌, refl, sym, ap, ap₂, subst, ◌∙◌}
use mathlib.Core.Logic.{◌⊎◌, inl, inr}
use mathlib.Core.Bool.{Bool, true, false}
use mathlib.Core.List.{List, [], ◌∷◌}
use Prim.Native.Nat.{ℕ, zero, suc, ◌+◌, ◌-◌, ◌*◌, ◌<◌, ◌≤◌}
use native.Mathlib.Omega.{arith}
use native.Mathlib.Nat.{suc-mul}
use lib.ListN.{length, get_or}
use lib.Seq.{ext_get_or}
use lib.Dec.{ltb}
use borrow.Author.Tests.{ltb-true, ltb-false}
use Rattle.model.specs.Lists.{part, put_at}
use Rattle.model.specs.Node.{slots_from, node_of, totals_from, slot_for}
use Rattle.model.specs.State.{node_at}
use Rattle.model.specs.Repair.{differ}
use Rattle.model.specs.declared.shape.Shape.{Shape}
use Rattle.model_laws.specs.Differ.{differ_add}
use Rattle.model_laws.specs.Words.{length_part, length_put, get_d_part, part_none, part_front, part_part, part_same, get_d_before, get_d_after}
use Rattle.tree_words.specs.Tally.{tallied}
use Rattle.calls_repair_write.specs.Toward.{WordsRight, WordsToward, Nearer, Goal, NearGoal, SlotsRight}

-- n of the k words from word p on were wrong, and are right now
pub record PutRight (m a : List ℕ) (n : ℕ) (b : List ℕ) (p k : ℕ) : Type 0 where
  pub nearer : Nearer m a n b
  pub same : WordsRight b m p k

module _ (m ws src : List ℕ) (p : ℕ) (l : length m ≡ length ws) (h : p + length src ≤ length ws) (e : part p (length src) m ≡ src) where
  abbrev b : List ℕ
  b = put_at p src ws

  inside : (q : ℕ) → p ≤ q → q < p + length src → get_or b q 0 ≡ get_or m q 0
  inside q lo hi =
      let z : p + (q - p) ≡ q = omega arith in
      subst (λ (k : ℕ). get_or b k 0 ≡ get_or m k 0) z
      (sym (get_d_part p (length src) (q - p) b (omega arith)) ∙ ap (λ (w : List ℕ). get_or w (q - p) 0) (part_same p src ws h ∙ sym e) ∙ get_d_part p (length src) (q - p) m (omega arith))

  which : (q : ℕ) → (get_or ws q 0 ≡ get_or b q 0) ⊎ (get_or b q 0 ≡ get_or m q 0)
  which q = go (ltb q p) refl (ltb q (p + length src)) refl
    where
      go : (x : Bool) → ltb q p ≡ x → (y : Bool) → ltb q (p + length src) ≡ y → (get_or ws q 0 ≡ get_or b q 0) ⊎ (get_or b q 0 ≡ get_or m q 0)
      go true u y v = inl (sym (get_d_before p q src ws (ltb-true q p u) (omega arith)))
      go false u true v = inr (inside q (ltb-false q p u) (ltb-true q (p + length src) v))
      go false u false v = inl (sym (get_d_after p q src ws (ltb-false q (p + length src) v) h))

  stay : (x y z : ℕ) → (x ≡ y) ⊎ (y ≡ z) → x ≡ z → y ≡ z
  stay x y z (inl u) w = sym u ∙ w
  stay x y z (inr v) w = v

  put_near : PutRight m ws (differ ws b) b p (length src)
  put_near = record {
    nearer = record {
      kept = record { long = length_put p src ws h; kept = λ q w. stay (get_or ws q 0) (get_or b q 0) (get_or m q 0) (which q) w };
      count = sym (differ_add ws b m (sym (length_put p src ws h)) (length_put p src ws h ∙ sym l) (λ q w. which q));
    };
    same = inside;
  }

pub put_by : (m ws src now : List ℕ) (p n : ℕ) → ◌≡◌ {A = ℕ × List ℕ} (n, now) (tallied p src ws) → length m ≡ length ws → p + length src ≤ length ws → part p (length src) m ≡ src
    → PutRight m ws n now p (length src)
unfolding tallied
put_by m ws src now p n w l h e = subst (λ (z : ℕ × List ℕ). PutRight m ws z.0 z.1 p (length src)) (sym w) (put_near m ws src p l h e)

pub put_long : (ws src now : List ℕ) (p n : ℕ) → p + length src ≤ length ws → ◌≡◌ {A = ℕ × List ℕ} (n, now) (tallied p src ws) → length now ≡ length ws
unfolding tallied
put_long ws src now p n h w = ap (λ (z : ℕ × List ℕ). length z.1) w ∙ length_put p src ws h

-- one way after another
pub kept_on : {m a b c : List ℕ} → WordsToward m a b → WordsToward m b c → WordsToward m a c
kept_on x y = record { long = y.long ∙ x.long; kept = λ q w. y.kept q (x.kept q w) }

pub kept_none : {m a : List ℕ} → WordsToward m a a
kept_none = record { long = refl; kept = λ q w. w }

pub kept_same : {m a b : List ℕ} → WordsToward m a b → (p n : ℕ) → WordsRight a m p n → WordsRight b m p n
kept_same x p n s q lo hi = x.kept q (s q lo hi)

module _ (m : Goal) where
  pub near_none : (la xa : List ℕ) → NearGoal m la xa 0 la xa
  near_none la xa = record { leaves = kept_none; beside = kept_none; count = omega arith }

  pub near_on : (la xa lb xb lc xc : List ℕ) (n k : ℕ) → NearGoal m la xa n lb xb → NearGoal m lb xb k lc xc → NearGoal m la xa (n + k) lc xc
  near_on la xa lb xb lc xc n k x y = record { leaves = kept_on x.leaves y.leaves; beside = kept_on x.beside y.beside; count = omega (arith, x.count, y.count) }

  pub near_leaves : (la lb xa : List ℕ) (n : ℕ) → Nearer m.leaves la n lb → NearGoal m la xa n lb xa
  near_leaves la lb xa n x = record { leaves = x.kept; beside = kept_none; count = omega (arith, x.count) }

  pub near_beside : (la xa xb : List ℕ) (n : ℕ) → Nearer m.beside xa n xb → NearGoal m la xa n la xb
  near_beside la xa xb n x = record { leaves = kept_none; beside = x.kept; count = omega (arith, x.count) }

pub nearer_none : (m a : List ℕ) → Nearer m a 0 a
nearer_none m a = record { kept = kept_none; count = omega arith }

pub nearer_on : (m a b c : List ℕ) (n k : ℕ) → Nearer m a n b → Nearer m b k c → Nearer m a (n + k) c
nearer_on m a b c n k x y = record { kept = kept_on x.kept y.kept; count = omega (arith, x.count, y.count) }

-- words that are the same ------------------------------------------------------------------------------------------------------------------------

pub part_two : (ws : List ℕ) (q x y : ℕ) → q + 2 ≤ length ws → get_or ws q 0 ≡ x → get_or ws (q + 1) 0 ≡ y → part q 2 ws ≡ x ∷ y ∷ []
part_two ws q x y h ex ey =
    part_front q 1 ws (omega arith) ∙ ap₂ (λ (a : ℕ) (l : List ℕ). a ∷ l) ex (part_front (q + 1) 0 ws (omega arith) ∙ ap₂ (λ (a : ℕ) (l : List ℕ). a ∷ l) ey (part_none (q + 1 + 1) ws))

pub part_one : (ws : List ℕ) (q x : ℕ) → q < length ws → get_or ws q 0 ≡ x → part q 1 ws ≡ x ∷ []
part_one ws q x h ex = part_front q 0 ws h ∙ ap₂ (λ (a : ℕ) (l : List ℕ). a ∷ l) ex (part_none (q + 1) ws)

same_part : (a m : List ℕ) (p n : ℕ) → length a ≡ length m → p + n ≤ length m → WordsRight a m p n → part p n a ≡ part p n m
same_part a m p n l h s =
    let la : length (part p n a) ≡ n = length_part p n a (omega arith) in
    let lm : length (part p n m) ≡ n = length_part p n m h in
    ext_get_or 0 (part p n a) (part p n m) (la ∙ sym lm) (λ i w. get_d_part p n i a (omega arith) ∙ s (p + i) (omega arith) (omega arith) ∙ sym (get_d_part p n i m (omega arith)))

same_slots : (s n p : ℕ) (a m : List ℕ) → length a ≡ length m → p + n * s ≤ length m → WordsRight a m p (n * s) → slots_from s n p a ≡ slots_from s n p m
unfolding slots_from
same_slots s zero p a m l h w = refl
same_slots s (suc n) p a m l h w =
    let k : suc n * s ≡ n * s + s = suc-mul n s in
    ap₂ (λ (x : List ℕ) (xs : List (List ℕ)). x ∷ xs) (same_part a m p s l (omega arith) (λ q lo hi. w q lo (omega arith)))
    (same_slots s n (p + s) a m l (omega arith) (λ q lo hi. w q (omega arith) (omega arith)))

slots_part : (s n q at size : ℕ) (area : List ℕ) → q + n * s ≤ size → slots_from s n q (part at size area) ≡ slots_from s n (at + q) area
unfolding slots_from
slots_part s zero q at size area h = refl
slots_part s (suc n) q at size area h =
    let k : suc n * s ≡ n * s + s = suc-mul n s in
    let z : at + (q + s) ≡ at + q + s = omega arith in
    ap₂ (λ (x : List ℕ) (xs : List (List ℕ)). x ∷ xs) (part_part at size q s area (omega arith)) (slots_part s n (q + s) at size area (omega arith) ∙ ap (λ (x : ℕ). slots_from s n x area) z)

-- the slot for a node whose slots are the same
pub slot_same : (g : Shape) (c : ℕ) (a m : List ℕ) → g.size ≡ 3 + g.fan * g.stride → length a ≡ length m → c * g.size + g.size ≤ length m → SlotsRight g a m c → slot_for
    g.stride c (node_at g c a) ≡ slot_for g.stride c (node_at g c m)
unfolding slot_for node_of
slot_same g c a m e l h s =
    ap (λ (ss : List (List ℕ)). c ∷ totals_from (g.stride - 1) 0 ss)
    (slots_part g.stride g.fan 3 (c * g.size) g.size a (omega arith) ∙ same_slots g.stride g.fan (c * g.size + 3) a m l (omega arith) s
    ∙ sym (slots_part g.stride g.fan 3 (c * g.size) g.size m (omega arith)))

-- rows of words one after the other
pub same_rows : (a m : List ℕ) (s n p : ℕ) → ((i : ℕ) → i < n → WordsRight a m (p + i * s) s) → WordsRight a m p (n * s)
same_rows a m s zero p f q lo hi = absurd (omega (arith, zero_rows s))
  where
    zero_rows : (s : ℕ) → 0 * s ≡ 0
    zero_rows s = omega arith
same_rows a m s (suc n) p f q lo hi = go (ltb q (p + n * s)) refl (λ (w : q < p + n * s). same_rows a m s n p (λ i h. f i (omega arith)) q lo w)
  where
    go : (b : Bool) → ltb q (p + n * s) ≡ b → (q < p + n * s → get_or a q 0 ≡ get_or m q 0) → get_or a q 0 ≡ get_or m q 0
    go true e r = r (ltb-true q (p + n * s) e)
    go false e r = let k : suc n * s ≡ n * s + s = suc-mul n s in f n (omega arith) q (ltb-false q (p + n * s) e) (omega arith)
