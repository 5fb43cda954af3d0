-- A queue that takes a whole list is `is_once` of that list: the queue's marks are those of the definition, in an array that may be longer.
-- Assumes nothing.
use mathlib.Core.Path.{◌≡◌, refl, sym, ap, ap₂, ◌∙◌}
use mathlib.Core.Bool.{Bool, true, false, cond, ◌&&◌}
use mathlib.Core.List.{List, [], ◌∷◌}
use Prim.Native.Nat.{ℕ, suc, ◌+◌, ◌<◌, ◌≤◌}
use native.Mathlib.Decide.{ℕ_discrete}
use native.Mathlib.Omega.{arith}
use lib.ListN.{length, get_or, set, replicate, length-set, length-replicate, get_or-replicate}
use lib.Seq.{get_or-set_same, get_or-set_other}
use lib.Dec.{ltb, leb, eqb}
use borrow.Author.Tests.{ltb-true, ltb-false, le-leb, lt-leb, eq-eqb, ne_eqb, eqb-true, eqb-false}
use Rattle.model.specs.Mend.{fresh, is_once}
use Rattle.calls_repair_test.specs.Queue.{Queue, queue, noted_all}
use Rattle.calls_repair_test.proofs.QueueLaws.{stays}
use Rattle.calls_repair_test.proofs.LevelLaws.{LevelFull, full, noted_is}

and_false : (b : Bool) → (b && false) ≡ false
and_false true = refl
and_false false = refl

-- whether all could be noted: each is new, and there is room for all
pub all_ok : (n most k : ℕ) (cs os ms : List ℕ) → k ≤ most → (noted_all n most cs (queue true k os ms)).ok ≡ (fresh n cs ms && leb (k + length cs) most)
unfolding noted_all fresh
all_ok n most k [] os ms h = rw (le-leb (k + 0) most (omega arith))
all_ok n most k (c ∷ cs) os ms h =
    ap (λ (q : Queue). (noted_all n most cs q).ok) (noted_is n most c k os ms)
    ∙ go (ltb c n) (eqb (get_or ms c 0) 0) (ltb k most) refl (λ (m : k + 1 ≤ most). all_ok n most (k + 1) cs (set os k c) (set ms c 1) m)
  where
    none : (noted_all n most cs (queue false k os ms)).ok ≡ false
    none = ap (λ (q : Queue). q.ok) (stays n most k cs os ms)

    go : (a b r : Bool) → ltb k most ≡ r → (k + 1 ≤ most → (noted_all n most cs (queue true (k + 1) (set os k c) (set ms c 1))).ok ≡ (fresh n cs (set ms c 1) && leb (k + 1 + length cs) most))
        → (noted_all n most cs (cond (a && b && r) (queue true (k + 1) (set os k c) (set ms c 1)) (queue false k os ms))).ok ≡ (a && b && fresh n cs (set ms c 1) && leb (k + suc (length cs)) most)
    go true true true q f =
        let m : k < most = ltb-true k most q in
        let e : k + 1 + length cs ≡ k + suc (length cs) = omega arith in
        f (omega arith) ∙ ap (λ (x : ℕ). fresh n cs (set ms c 1) && leb x most) e
    go true true false q f =
        let m : most ≤ k = ltb-false k most q in
        none ∙ sym (ap (λ (x : Bool). fresh n cs (set ms c 1) && x) (lt-leb (k + suc (length cs)) most (omega arith)) ∙ and_false (fresh n cs (set ms c 1)))
    go true false r q f = none
    go false b r q f = none

-- marks that are the same below n
pub fresh_same : (n : ℕ) (cs m m' : List ℕ) → n ≤ length m → n ≤ length m' → ((k : ℕ) → k < n → get_or m k 0 ≡ get_or m' k 0) → fresh n cs m ≡ fresh n cs m'
unfolding fresh
fresh_same n [] m m' l l' f = refl
fresh_same n (c ∷ cs) m m' l l' f =
    go (ltb c n) refl (λ (h : c < n). fresh_same n cs (set m c 1) (set m' c 1) (omega (arith, length-set m c 1)) (omega (arith, length-set m' c 1)) (λ k hk. still k hk h (ℕ_discrete k c)))
  where
    still : (k : ℕ) → k < n → c < n → Dec (k ≡ c) → get_or (set m c 1) k 0 ≡ get_or (set m' c 1) k 0
    still k hk h (yes q) = ap (λ (x : ℕ). get_or (set m c 1) x 0) q ∙ get_or-set_same m c 1 0 (omega arith) ∙ sym (ap (λ (x : ℕ). get_or (set m' c 1) x 0) q ∙ get_or-set_same m' c 1 0 (omega arith))
    still k hk h (no d) = get_or-set_other m c k 1 0 d ∙ f k hk ∙ sym (get_or-set_other m' c k 1 0 d)

    go : (b : Bool) → ltb c n ≡ b → (c < n → fresh n cs (set m c 1) ≡ fresh n cs (set m' c 1))
        → (b && eqb (get_or m c 0) 0 && fresh n cs (set m c 1)) ≡ (b && eqb (get_or m' c 0) 0 && fresh n cs (set m' c 1))
    go true q g = let h : c < n = ltb-true c n q in ap₂ (λ (x : ℕ) (y : Bool). eqb x 0 && y) (f c h) (g h)
    go false q g = refl

left : (a b : Bool) → (a && b) ≡ true → a ≡ true
left true b e = refl
left false b e = e

eqb_shift : (k l n : ℕ) → eqb (k + l) (k + n) ≡ eqb l n
eqb_shift k l n = go (eqb l n) refl
  where
    go : (b : Bool) → eqb l n ≡ b → eqb (k + l) (k + n) ≡ b
    go true q = let z : l ≡ n = eqb-true l n q in eq-eqb (k + l) (k + n) (omega arith)
    go false q = ne_eqb (k + l) (k + n) (λ w. eqb-false l n q (omega (arith, w)))

-- a list noted behind k others, with an array of zeros for marks, and room for n
pub queue_full : (n k most N cnt : ℕ) (b : Bool) (cs os ms os' ms' : List ℕ) → most ≡ k + n → ms ≡ replicate N 0 → n ≤ N → most ≤ length os
    → queue b cnt os' ms' ≡ noted_all n most cs (queue true k os ms) → (b && eqb cnt most) ≡ is_once n cs
queue_full n k most N cnt b cs os ms os' ms' r z h l e = go b refl
  where
    zeros : fresh n cs ms ≡ fresh n cs (replicate n 0)
    zeros =
        ap (fresh n cs) z
        ∙ fresh_same n cs (replicate N 0) (replicate n 0) (omega (arith, length-replicate {A = ℕ} N 0)) (omega (arith, length-replicate {A = ℕ} n 0))
        (λ k hk. get_or-replicate {A = ℕ} N k 0 0 (omega arith) ∙ sym (get_or-replicate {A = ℕ} n k 0 0 hk))

    ok : b ≡ (fresh n cs (replicate n 0) && leb (k + length cs) most)
    ok = ap (λ (q : Queue). q.ok) e ∙ all_ok n most k cs os ms (omega arith) ∙ ap (λ (x : Bool). x && leb (k + length cs) most) zeros

    none : (x : Bool) → (fresh n cs (replicate n 0) && leb (k + length cs) most) ≡ false → eqb (length cs) n ≡ x → (fresh n cs (replicate n 0) && x) ≡ false
    none true q w =
        let y : length cs ≡ n = eqb-true (length cs) n w in
        sym (ap (λ (x : Bool). fresh n cs (replicate n 0) && x) (le-leb (k + length cs) most (omega arith))) ∙ q
    none false q w = and_false (fresh n cs (replicate n 0))

    go : (x : Bool) → b ≡ x → (b && eqb cnt most) ≡ is_once n cs
    go true q =
        let f : LevelFull n most k cnt cs os os' = full n most k cnt cs os ms os' ms' (omega arith) l (ap (λ (x : Bool). queue x cnt os' ms') (sym q) ∙ e) in
        let w : fresh n cs (replicate n 0) ≡ true = left (fresh n cs (replicate n 0)) (leb (k + length cs) most) (sym ok ∙ q) in
        let c : eqb cnt most ≡ eqb (length cs) n = ap₂ eqb f.count r ∙ eqb_shift k (length cs) n in
        ap₂ (λ (x : Bool) (y : Bool). x && y) (q ∙ sym w) c
    go false q = ap (λ (x : Bool). x && eqb cnt most) q ∙ sym (none (eqb (length cs) n) (sym ok ∙ q) refl)
