-- Tests of audit as facts: conjunctions, all numbers of a range, an empty slot, a filled node. Assumes nothing.
use Rattle.std.specs.Prelude.{◌≡◌, refl, Bool, true, false, ◌&&◌, List, [], ◌∷◌, ℕ, zero, suc, ◌+◌, ◌-◌, ◌≤◌, ◌<◌, leb, eqb, length, get_or, replicate}
use Rattle.std.proofs.Common.{sym, ap, ap₂, ◌∙◌, add-one, arith, eqb-true, eq-eqb, le-leb, leb-true}
use Rattle.std.proofs.Math.Decide.{ℕ_discrete}
use Rattle.model.specs.Kind.{stride}
use Rattle.model.specs.declared.shape.Kind.{Kind}
use Rattle.model.specs.Node.{Node, none, empty_slot}
use Rattle.model.specs.State.{State}
use Rattle.model.specs.Audit.{every, is_empty_slot, is_filled}
use Rattle.model_laws.specs.Lists.{all_at_at}
use Rattle.model_laws.specs.Nodes.{Formed}

pub both : (a b : Bool) → (a && b) ≡ true → (a ≡ true) × (b ≡ true)
both true b e = (refl, e)
both false b e = absurd (let z : ◌≡◌ {A = ℕ} 0 1 = cc in omega arith)

pub join : (a b : Bool) → a ≡ true → b ≡ true → (a && b) ≡ true
join a b p q = rw (p, q)

pub every_at : (q : ℕ → Bool) (i n : ℕ) → every q i n ≡ true → (j : ℕ) → i ≤ j → j < i + n → q j ≡ true
unfolding every
every_at q i zero e j lo hi = absurd (omega arith)
every_at q i (suc n) e j lo hi =
    let r = both (q i) (every q (suc i) n) e in
    elim (ℕ_discrete i j) [
      | yes p ↦ ap q (sym p) ∙ r.0
      | no ne ↦ every_at q (suc i) n r.1 j (omega arith) (omega arith)
    ]

pub every_of : (q : ℕ → Bool) (i n : ℕ) → ((j : ℕ) → i ≤ j → j < i + n → q j ≡ true) → every q i n ≡ true
unfolding every
every_of q i zero h = refl
every_of q i (suc n) h = join (q i) (every q (suc i) n) (h i (omega arith) (omega arith)) (every_of q (suc i) n (λ j lo hi. h j (omega arith) (omega arith)))

zeros : (l : List ℕ) → ((v : ℕ) → v < length l → get_or l v 0 ≡ 0) → l ≡ replicate (length l) 0
zeros [] h = refl
zeros (x ∷ l) h = ap₂ (λ (p : ℕ) (q : List ℕ). p ∷ q) (h 0 (omega arith)) (zeros l (λ v lv. h (suc v) (omega arith)))

pub empty_is : (K : Kind) (x : List ℕ) → length x ≡ stride K → is_empty_slot K x ≡ true → x ≡ empty_slot (stride K)
unfolding empty_slot
empty_is K [] l e = absurd (omega arith)
empty_is K (a ∷ ls) l e =
    let r = both (eqb a none) (every (λ v. eqb (get_or (a ∷ ls) (v + 1) 0) 0) 0 K.views) e in
    let n : length ls ≡ K.views = omega arith in
    let m : stride K - 1 ≡ K.views = omega arith in
    let z : ls ≡ replicate (length ls) 0 = zeros ls (λ v lv. rw (add-one v) at (eqb-true (get_or (a ∷ ls) (v + 1) 0) 0 (every_at (λ v. eqb (get_or (a ∷ ls) (v + 1) 0) 0) 0 K.views r.1 v (omega arith) (omega arith)))) in
    ap₂ (λ (p : ℕ) (q : List ℕ). p ∷ q) (eqb-true a none r.0) (z ∙ ap (λ (k : ℕ). replicate k 0) (n ∙ sym m))

pub zero_at : (n v : ℕ) → ◌≡◌ {A = ℕ} (get_or (replicate n 0) v 0) 0
zero_at zero v = refl
zero_at (suc n) zero = refl
zero_at (suc n) (suc v) = zero_at n v

pub is_empty_law : (K : Kind) → is_empty_slot K (empty_slot (stride K)) ≡ true
unfolding empty_slot
is_empty_law K = every_of (λ v. eqb (get_or (none ∷ replicate (stride K - 1) 0) (v + 1) 0) 0) 0 K.views (λ v lo hi. eq-eqb (get_or (none ∷ replicate (stride K - 1) 0) (v + 1) 0) 0 (rw (add-one v) (zero_at (stride K - 1) v)))

-- len within its bounds and unused slots empty
pub record FilledBy (K : Kind) (t : State) (least : ℕ) (n : Node) : Type 0 where
  pub low : least ≤ n.len
  pub high : n.len ≤ t.head.fan
  pub unused : (i : ℕ) → n.len ≤ i → i < t.head.fan → get_or n.slots i [] ≡ empty_slot (stride K)

pub filled_by : (K : Kind) (t : State) (least : ℕ) (n : Node) → Formed (stride K) t.head.fan n → is_filled K t least n ≡ true → FilledBy K t least n
unfolding is_filled
filled_by K t least n f e =
    let q : ℕ → Bool = λ i. is_empty_slot K (get_or n.slots i []) in
    let r = both (leb least n.len && leb n.len t.head.fan) (every q n.len (t.head.fan - n.len)) e in
    let s = both (leb least n.len) (leb n.len t.head.fan) r.0 in
    let h : n.len ≤ t.head.fan = leb-true n.len t.head.fan s.1 in
    record {
      low = leb-true least n.len s.0;
      high = h;
      unused = λ i lo hi. empty_is K (get_or n.slots i []) (all_at_at (λ x. length x ≡ stride K) i [] n.slots (let z = f.count in omega arith) f.wide) (every_at q n.len (t.head.fan - n.len) r.1 i lo (omega arith));
    }

pub filled_test : (K : Kind) (t : State) (least : ℕ) (n : Node) → FilledBy K t least n → is_filled K t least n ≡ true
unfolding is_filled
filled_test K t least n h =
    let q : ℕ → Bool = λ i. is_empty_slot K (get_or n.slots i []) in
    join (leb least n.len && leb n.len t.head.fan) (every q n.len (t.head.fan - n.len))
    (join (leb least n.len) (leb n.len t.head.fan) (le-leb least n.len h.low) (le-leb n.len t.head.fan h.high))
    (every_of q n.len (t.head.fan - n.len) (λ i lo hi. ap (is_empty_slot K) (h.unused i lo (omega (arith, h.high))) ∙ (is_empty_law K)))
