-- What a call learns from a way up modulo 2 ^ 32, and from a change as it is settled. Assumes nothing.
use Rattle.model.specs.declared.way.Broken.{Broken}
use Rattle.model.specs.Numbered.{broken}
use Rattle.std.specs.Prelude.{Ok, Err, Result}
use Rattle.std.proofs.Common.{◌≡◌, ℕ, Bool, true, false, cond, eqb, List, sym, refl, ap, ◌∙◌, true≢false, eq-eqb, ne_eqb}
use Rattle.model.specs.Node.{wrap}
use Rattle.model.specs.State.{State, state}
use Rattle.model.specs.Place.{Change, change}
use Rattle.model.specs.Calls.{Reply, reply, settled}
use Rattle.model.specs.declared.head.Head.{Head}
use Rattle.tree_walk.specs.Low.{low_way}
use Rattle.tree_walk.specs.Raise.{whole}
use Rattle.tree_place.specs.Room.{settled_in}

module _ (xs : List ℕ) where
  pub low_whole : (n : ℕ) (w : Result ℕ Broken × List ℕ) → (Ok n, xs) ≡ low_way w → (m : ℕ) × ((Ok m, xs) ≡ w) × (n ≡ wrap m)
  low_whole n (Ok m, ys) e =
      let z : Ok n ≡ Ok (wrap m) = ap (λ (p : Result ℕ Broken × List ℕ). p.0) e in
      (m, ap (λ (p : Result ℕ Broken × List ℕ). (Ok m, p.1)) e, cc)
  low_whole n (Err _, ys) e = absurd (true≢false (ap (λ (p : Result ℕ Broken × List ℕ). whole p.0) e))

  pub low_lost : (w : Result ℕ Broken × List ℕ) → (Err broken, xs) ≡ low_way w → (Err broken, xs) ≡ w
  low_lost (Ok m, ys) e = absurd (true≢false (sym (ap (λ (p : Result ℕ Broken × List ℕ). whole p.0) e)))
  low_lost (Err _, ys) e = e

-- c is the change r as it is settled
module _ (h : Head) (r : Change) where
  abbrev left : Change
  left = change r.number (state h r.state.leaves r.state.inners r.state.homes) 0 0

  settled_number : (settled_in h r).number ≡ r.number
  settled_number = go (eqb r.number 0)
    where
      go : (b : Bool) → (cond b r left).number ≡ r.number
      go true = refl
      go false = refl

  module _ (c : Change) (e : c ≡ settled_in h r) where
    pub settled_same : c.number ≡ r.number
    settled_same = ap (λ (x : Change). x.number) e ∙ settled_number

    -- where it met nothing it is the change, else the head is as it was
    pub settled_zero : c.number ≡ 0 → c ≡ r
    settled_zero z = e ∙ rw (eq-eqb r.number 0 (sym settled_same ∙ z))

    pub settled_head : (c.number ≡ 0 → ⊥) → c.state.head ≡ h
    settled_head z =
        let q : settled_in h r ≡ left = rw (ne_eqb r.number 0 (λ n. z (settled_same ∙ n))) in
        ap (λ (x : Change). x.state.head) (e ∙ q)

-- a call answers the same of both
module _ {A : Type 0} (s : State) (refuse : ℕ → A) (answer : Change → A) where
  abbrev answered : Change → Reply A
  answered r = settled s r refuse (answer r)

  pub settled_again : (r c : Change) → c ≡ settled_in s.head r → answered c ≡ answered r
  settled_again r c e = ap answered e ∙ go (eqb r.number 0) refl
    where
      go : (b : Bool) → eqb r.number 0 ≡ b → answered (cond b r (left s.head r)) ≡ cond b (reply r.state (answer r)) (reply (state s.head r.state.leaves r.state.inners r.state.homes) (refuse r.number))
      go true q = rw q
      go false q = rw q
