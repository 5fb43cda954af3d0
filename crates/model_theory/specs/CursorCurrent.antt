-- Every current cursor of a sound state is the cursor of the entry at which it stands, so the calls on cursors are the calls by id; any other is refused by 3, 13 or 14.
use Rattle.std.specs.Prelude.{◌≡◌, refl, ◌≢◌, ◌⊎◌, Bool, true, false, cond, ◌&&◌, List, [], ◌∷◌, ◌++◌, ℕ, zero, suc, ◌≤◌, ◌<◌, ltb, eqb, length, get_or, Ok}
use Rattle.std.proofs.Common.{sym, ap, ap₂, ◌∙◌, arith}
use Rattle.std.proofs.Math.Logic.{inl, inr}
use Rattle.std.proofs.Math.Decide.{ℕ_discrete, dec_lt}
use Rattle.std.proofs.lemmas.List.{length-map}
use borrow.Author.Tests.{eqb-true, ltb-true, eq-eqb, ne_eqb, lt-ltb, lt-leb, le-leb}
use Rattle.model.specs.Kind.{stride}
use Rattle.model.specs.declared.shape.Kind.{Kind}
use Rattle.model.specs.Lists.{Cause, refusal}
use Rattle.model.specs.Node.{Node, child, used}
use Rattle.model.specs.State.{State}
use Rattle.model.specs.Sound.{leaf_in, Coherent}
use Rattle.model.specs.Refuse.{opening, stale, current}
use Rattle.model.specs.Calls as calls
use Rattle.model.specs.Calls.{cursor_at, slot_at}
use Rattle.model.specs.declared.head.Cursor.{Cursor}
use Rattle.model_tree.specs.Levels.{Slot}
use Rattle.model_tree.specs.Cursor.{index_of}
use Rattle.model_tree.specs.CheckBack.{body_checks}
use Rattle.model_theory.specs.WordTidy.{Tidy, len_used, slot_used}
use Rattle.model_theory.specs.LiftTree.{slot_of, slots_of, tree_of}
use Rattle.model_theory.specs.LiftMarks.{get_d_slot}
use Rattle.model_theory.specs.WordNeat.{neat_of}
use Rattle.model_theory.specs.LiftSound.{body_of}
use Rattle.model_theory.specs.LiftSoundBack.{slots_all}
use Rattle.model_theory.specs.CallOpen.{opens, cursor_is}
use Rattle.model_theory.specs.AuditTests.{both}

-- the first of some causes applies, whatever comes behind
pub first_applies : (xs ys : List Cause) (n : ℕ) → refusal xs ≡ suc n → refusal (xs ++ ys) ≡ suc n
unfolding refusal
first_applies [] ys n e = absurd (omega arith)
first_applies (x ∷ xs) ys n e = go x.applies refl (first_applies xs ys n)
  where
    go : (b : Bool) → x.applies ≡ b → (refusal xs ≡ suc n → refusal (xs ++ ys) ≡ suc n) → cond x.applies x.number (refusal (xs ++ ys)) ≡ suc n
    go true q h = (let z : x.number ≡ suc n = rw q at e in rw q z)
    go false q h = (let z : refusal xs ≡ suc n = rw q at e in rw q (h z))

-- the cursor fails by that number: a wrong stamp, a leaf not in use, a slot at or past its len, tested in this order
abbrev pub Fails : Kind → State → Cursor → ℕ → Type 0
Fails K t c n =
    ((n ≡ 3) × (c.stamp ≢ t.head.stamp))
    ⊎ (((n ≡ 13) × (c.stamp ≡ t.head.stamp) × (t.head.leaves ≤ c.leaf.0))
    ⊎ ((n ≡ 14) × (c.stamp ≡ t.head.stamp) × (c.leaf.0 < t.head.leaves) × ((leaf_in (stride K) t c.leaf.0).len ≤ c.slot)))

module _ (K : Kind) (t : State) (w : Coherent K t) (c : Cursor) where
  -- a cursor passes and is current, or fails by the number of the first of stamp, leaf and slot that is wrong
  pub which : ((current K t c ≡ true) × (refusal (stale K t c) ≡ 0)) ⊎ Fails K t c (refusal (stale K t c))
  unfolding refusal
  which = go (ℕ_discrete c.stamp t.head.stamp) (dec_lt c.leaf.0 t.head.leaves) (dec_lt c.slot (leaf_in (stride K) t c.leaf.0).len)
    where
      go : Dec (c.stamp ≡ t.head.stamp) → Dec (c.leaf.0 < t.head.leaves) → Dec (c.slot < (leaf_in (stride K) t c.leaf.0).len)
          → ((current K t c ≡ true) × (refusal (stale K t c) ≡ 0)) ⊎ Fails K t c (refusal (stale K t c))
      go (no a) b d = inr (rw (ne_eqb c.stamp t.head.stamp a) (inl (refl, a)))
      go (yes a) (no b) d = inr (rw (eq-eqb c.stamp t.head.stamp a, le-leb t.head.leaves c.leaf.0 (omega arith)) (inr (inl (refl, a, omega arith))))
      go (yes a) (yes b) (no d) = inr (rw (eq-eqb c.stamp t.head.stamp a, lt-leb t.head.leaves c.leaf.0 b, le-leb (leaf_in (stride K) t c.leaf.0).len c.slot (omega arith)) (inr (inr (refl, a, b, omega arith))))
      go (yes a) (yes b) (yes d) = inl (
        rw (eq-eqb c.stamp t.head.stamp a, lt-ltb c.leaf.0 t.head.leaves b, lt-ltb c.slot (leaf_in (stride K) t c.leaf.0).len d),
        rw (eq-eqb c.stamp t.head.stamp a, lt-leb t.head.leaves c.leaf.0 b, lt-leb (leaf_in (stride K) t c.leaf.0).len c.slot d),
      )

  -- its number is no other's
  pub fails_not : (n m : ℕ) → Fails K t c n → m < 13 → m ≢ 3 → m ≢ n
  fails_not n m (inl f) lt ne e = ne (e ∙ f.0)
  fails_not n m (inr (inl f)) lt ne e = (let z = f.0 in omega arith)
  fails_not n m (inr (inr f)) lt ne e = (let z = f.0 in omega arith)

  pub fails_by : (n m : ℕ) → Fails K t c n → 3 ≢ m → 13 ≢ m → 14 ≢ m → n ≢ m
  fails_by n m (inl f) a b d e = a (sym f.0 ∙ e)
  fails_by n m (inr (inl f)) a b d e = b (sym f.0 ∙ e)
  fails_by n m (inr (inr f)) a b d e = d (sym f.0 ∙ e)

  -- a call stops by the number of its cursor
  pub blocked : (cs : List Cause) → Fails K t c (refusal (stale K t c)) → (m : ℕ) × (refusal (stale K t c) ≡ suc m) × (refusal (opening K t ++ (stale K t c ++ cs)) ≡ suc m)
  blocked cs f = go (refusal (stale K t c)) refl f
    where
      go : (n : ℕ) → refusal (stale K t c) ≡ n → Fails K t c n → (m : ℕ) × (refusal (stale K t c) ≡ suc m) × (refusal (opening K t ++ (stale K t c ++ cs)) ≡ suc m)
      go zero q f = absurd (fails_not 0 0 f (omega arith) (λ z. omega arith) refl)
      go (suc m) q f = (m, q, opens K t w (stale K t c ++ cs) ∙ first_applies (stale K t c) cs m q)

  pub current_is : current K t c ≡ true → (c.stamp ≡ t.head.stamp) × (c.leaf.0 < t.head.leaves) × (c.slot < (leaf_in (stride K) t c.leaf.0).len)
  current_is e =
      let k : ℕ = c.leaf.0 in
      let n : Node = leaf_in (stride K) t k in
      let r = both (eqb c.stamp t.head.stamp && ltb k t.head.leaves) (ltb c.slot n.len) e in
      let s = both (eqb c.stamp t.head.stamp) (ltb k t.head.leaves) r.0 in
      (eqb-true c.stamp t.head.stamp s.0, ltb-true k t.head.leaves s.1, ltb-true c.slot n.len r.1)

  pub is_current : current K t c ≡ true → (child (slot_at K t c) < t.head.entries) × (calls.cursor K t (child (slot_at K t c)) ≡ Ok c)
  is_current e =
      let k : ℕ = c.leaf.0 in
      let j : ℕ = c.slot in
      let n : Node = leaf_in (stride K) t k in
      let r = current_is e in
      let lk : k < t.head.leaves = r.1 in
      let td : Tidy (stride K) t.head.fan n = (neat_of (stride K) t K.effect w).leaf_tidy k lk in
      let lu : j < length (used n) = rw (len_used (stride K) t.head.fan n td) at r.2 in
      let ls : j < length (slots_of n) = (let z = length-map (used n) slot_of in omega arith) in
      let x : child (slot_at K t c) ≡ child (get_or (used n) j []) = ap child (slot_used (stride K) t.head.fan n td j [] lu) in
      let i : ℕ = child (get_or (used n) j []) in
      let b = body_of (stride K) t K.effect w in
      let home : get_or t.homes i 0 ≡ k = slots_all (λ y. get_or t.homes y.child 0 ≡ k) (used n) (b.homed k lk) j lu in
      let below : i < t.head.entries = slots_all (λ y. y.child < t.head.entries) (used n) (b.below k lk) j lu in
      let first : index_of i (slots_of n) ≡ j = ap (λ (y : Slot). index_of y.child (slots_of n)) (sym (get_d_slot (used n) j lu)) ∙ (body_checks (tree_of (stride K) t) b).firsts k lk j ls in (
        rw x below,
        ap (calls.cursor K t) x ∙ cursor_is K t w i below
            ∙ ap₂ (λ (l s : ℕ). Ok (cursor_at t.head.stamp l s)) home (ap (λ (m : ℕ). index_of i (slots_of (leaf_in (stride K) t m))) home ∙ first)
            ∙ ap (λ (m : ℕ). Ok (cursor_at m k j)) (sym r.0),
      )
