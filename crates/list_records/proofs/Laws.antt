-- A record's kind picks its call from the list of kinds; sixteen bytes written in order. Assumes nothing.
use Rattle.std.proofs.Common.{◌≡◌, refl, sym, ap, ◌∙◌, ℕ, zero, suc, ◌-◌, ◌≤◌, List, [], ◌∷◌, ◌++◌, length, take, drop, set, replicate, append_assoc, arith, length-append, length-drop, length-take, length-set}
use Rattle.std.proofs.Math.Seq.{drop-length}
use mathlib.Core.List.{append-nil}
use borrow.Rule.Slice.PartMut.{put_mid}
use Rattle.std.proofs.lemmas.List.{take_at, drop_at}
use lib.ListN.{get_or}
use Rattle.model.specs.Row as row
use Rattle.model.specs.Record.{Fields, kinds, bytes_of}

-- the call of one kind
pub at_kind : (f : Fields) (k : ℕ) → f.kind ≡ k → (x : row.Call) → x ≡ get_or (kinds f) k row.malformed → x ≡ get_or (kinds f) f.kind row.malformed
at_kind f k e x q = q ∙ ap (λ (n : ℕ). get_or (kinds f) n row.malformed) (sym e)

-- no kind
pub no_kind : (f : Fields) (k : ℕ) → (k ≡ 1 → ⊥) → (k ≡ 2 → ⊥) → (k ≡ 3 → ⊥) → (k ≡ 4 → ⊥) → (k ≡ 5 → ⊥) → (k ≡ 6 → ⊥) → (k ≡ 7 → ⊥) → (k ≡ 8 → ⊥) → (k ≡ 9 → ⊥) → (k ≡ 10 → ⊥) → (k ≡ 11 → ⊥)
    → (k ≡ 12 → ⊥) → (k ≡ 13 → ⊥) → row.malformed ≡ get_or (kinds f) k row.malformed
unfolding kinds
no_kind f zero a b c d e g h i j l m n o = refl
no_kind f (suc zero) a b c d e g h i j l m n o = absurd (a refl)
no_kind f (suc (suc zero)) a b c d e g h i j l m n o = absurd (b refl)
no_kind f (suc (suc (suc zero))) a b c d e g h i j l m n o = absurd (c refl)
no_kind f (suc (suc (suc (suc zero)))) a b c d e g h i j l m n o = absurd (d refl)
no_kind f (suc (suc (suc (suc (suc zero))))) a b c d e g h i j l m n o = absurd (e refl)
no_kind f (suc (suc (suc (suc (suc (suc zero)))))) a b c d e g h i j l m n o = absurd (g refl)
no_kind f (suc (suc (suc (suc (suc (suc (suc zero))))))) a b c d e g h i j l m n o = absurd (h refl)
no_kind f (suc (suc (suc (suc (suc (suc (suc (suc zero)))))))) a b c d e g h i j l m n o = absurd (i refl)
no_kind f (suc (suc (suc (suc (suc (suc (suc (suc (suc zero))))))))) a b c d e g h i j l m n o = absurd (j refl)
no_kind f (suc (suc (suc (suc (suc (suc (suc (suc (suc (suc zero)))))))))) a b c d e g h i j l m n o = absurd (l refl)
no_kind f (suc (suc (suc (suc (suc (suc (suc (suc (suc (suc (suc zero))))))))))) a b c d e g h i j l m n o = absurd (m refl)
no_kind f (suc (suc (suc (suc (suc (suc (suc (suc (suc (suc (suc (suc zero)))))))))))) a b c d e g h i j l m n o = absurd (n refl)
no_kind f (suc (suc (suc (suc (suc (suc (suc (suc (suc (suc (suc (suc (suc zero))))))))))))) a b c d e g h i j l m n o = absurd (o refl)
no_kind f (suc (suc (suc (suc (suc (suc (suc (suc (suc (suc (suc (suc (suc (suc k)))))))))))))) a b c d e g h i j l m n o = refl

-- a part written behind p, and the last one: what was there before is gone
behind : (s p r ys : List ℕ) (a k : ℕ) → s ≡ p ++ r → length p ≡ a → put_mid a k s ys ≡ (p ++ ys) ++ drop k r
behind s p r ys a k e h = rw (e, take_at p r a h, drop_at p r a h, append_assoc p ys (drop k r))

last : (s p r ys : List ℕ) (a : ℕ) → s ≡ p ++ r → length p ≡ a → put_mid a (length s - a) s ys ≡ p ++ ys
last s p r ys a e h =
    let n : length s - a ≡ length r = omega (arith, ap length e, length-append p r) in
    rw n (behind s p r ys a (length r) e h ∙ rw (drop-length r, append-nil (p ++ ys)))

two : (l : List ℕ) (a b : ℕ) → 2 ≤ length l → set (set l 0 a) 1 b ≡ (a ∷ b ∷ []) ++ drop 2 l
two [] a b h = absurd (omega arith)
two (x ∷ []) a b h = absurd (omega arith)
two (x ∷ y ∷ l) a b h = refl

zeros : (l : List ℕ) (a b : ℕ) → length l ≡ 16 → replicate {A = ℕ} (length (take 2 (drop 2 (set (set l 0 a) 1 b)))) 0 ≡ 0 ∷ 0 ∷ []
zeros l a b h =
    let n : length (take 2 (drop 2 (set (set l 0 a) 1 b))) ≡ 2 = simp (length-take, length-drop, length-set) (omega arith) in
    rw n

-- two bytes, two zeros and three words written over sixteen bytes
pub record_of : (l z x y w : List ℕ) (a b m n o : ℕ) → length l ≡ 16 → z ≡ replicate {A = ℕ} (length (take 2 (drop 2 (set (set l 0 a) 1 b)))) 0
    → x ≡ bytes_of m → y ≡ bytes_of n → w ≡ bytes_of o
    → let s = put_mid 8 4 (put_mid 4 4 (put_mid 2 2 (set (set l 0 a) 1 b) z) x) y in put_mid 12 (length s - 12) s w ≡ a ∷ b ∷ 0 ∷ 0 ∷ (bytes_of m ++ (bytes_of n ++ bytes_of o))
record_of l z x y w a b m n o h hz hx hy hw =
    let e1 = behind (set (set l 0 a) 1 b) (a ∷ b ∷ []) (drop 2 l) (0 ∷ 0 ∷ []) 2 2 (two l a b (omega arith)) refl in
    let e2 = behind _ (a ∷ b ∷ 0 ∷ 0 ∷ []) _ (bytes_of m) 4 4 e1 refl in
    let e3 = behind _ (a ∷ b ∷ 0 ∷ 0 ∷ bytes_of m) _ (bytes_of n) 8 4 e2 refl in
    rw (hx, hy, hw, hz ∙ zeros l a b h) (last _ (a ∷ b ∷ 0 ∷ 0 ∷ (bytes_of m ++ bytes_of n)) _ (bytes_of o) 12 e3 refl)
