-- How many slots a search examines: by slot numbers, and as the walks count them. Assumes nothing.
use Rattle.std.specs.Prelude.{◌≡◌, refl, Bool, true, false, cond, ltb, length, take, Ok, Some, None}
use Rattle.std.proofs.Math.Path.{sym, ap}
use Rattle.std.proofs.Common.{ap₂, ◌∙◌, length-take}
use mathlib.Core.List.{List, [], ◌∷◌}
use Prim.Native.Nat.{ℕ, zero, suc, ◌+◌, ◌-◌, ◌<◌, ◌≤◌}
use Rattle.std.proofs.Math.Nat.{min-le_left}
use native.Mathlib.Omega.{arith}
use Rattle.std.proofs.Math.ListN.{get_or}
use Rattle.std.proofs.Math.Seq.{get_or-take}
use borrow.Author.Tests.{eq-eqb, ne_eqb, le-leb, lt-leb}
use Rattle.model.specs.Lists.{sum_by}
use Rattle.model.specs.Kind.{prepare}
use Rattle.model.specs.Node.{Node, child, length_in, total, used, find_from, wrap}
use Rattle.model.specs.State.{node_at}
use Rattle.model.specs.Climb.{leaf_no}
use Rattle.model.specs.Locate.{finger, served, leaf_of}
use Rattle.model.specs.Examined.{slots_before, downward, with_slots, found_slots, finger_slots, served_slots}
use Rattle.model.specs.declared.shape.Shape.{Shape}
use Rattle.model.specs.Node.{Found}
use Rattle.model.specs.declared.head.Finger.{Finger}
use Rattle.model.specs.Locate.{Search}
use Rattle.model_laws.specs.Find.{found_parts, find_ranged}
use Rattle.model_laws.specs.Locate.{leaf_found}

not_found : (j o t u : ℕ) → ◌≡◌ {A = Found} None (Some (j, o, t, u)) → ⊥
not_found j o t u q = let z : ◌≡◌ {A = ℕ} 0 1 = cc in omega arith

-- what `find` gives among slots counted from k: as many slots on as stand before it, and what their lengths leave of the position
pub record Taken (v k x : ℕ) (xs : List (List ℕ)) (j o : ℕ) : Type 0 where
  pub slot : j ≡ k + slots_before v x xs
  pub offset : o ≡ x - total v (take (slots_before v x xs) xs)

pub find_taken : (v e k x a b : ℕ) (xs : List (List ℕ)) (j o t u : ℕ) → find_from v e k x a b xs ≡ Some (j, o, t, u) → Taken v k x xs j o
unfolding find_from slots_before sum_by
find_taken v e k x a b [] j o t u q = absurd (not_found j o t u q)
find_taken v e k x a b (y ∷ ys) j o t u q =
    go (ltb x (length_in v y)) refl (find_taken v e (k + 1) (x - length_in v y) (a + length_in e y) (b + length_in prepare y) ys j o t u) q
  where
    go : (c : Bool) → ltb x (length_in v y) ≡ c
        → (find_from v e (k + 1) (x - length_in v y) (a + length_in e y) (b + length_in prepare y) ys ≡ Some (j, o, t, u) → Taken v (k + 1) (x - length_in v y) ys j o)
        → cond (ltb x (length_in v y)) (Some (k, x, a, b)) (find_from v e (k + 1) (x - length_in v y) (a + length_in e y) (b + length_in prepare y) ys) ≡ Some (j, o, t, u)
        → Taken v k x (y ∷ ys) j o
    go true p i q = let r : Some (k, x, a, b) ≡ Some (j, o, t, u) = rw p at q in let w = found_parts k x a b j o t u r in record { slot = rw p (omega (arith, w.0)); offset = rw p (omega (arith, w.0, w.1)) }
    go false p i q = let r = i (rw p at q) in record { slot = rw p (omega (arith, r.slot)); offset = rw p (omega (arith, r.offset)) }

pub used_short : (m : Node) → length (used m) ≤ m.len
used_short m = rw length-take (min-le_left m.len (length m.slots))

module _ (v e : ℕ) (g : Shape) (k rest a b : ℕ) (xs : List ℕ) (j o t u : ℕ) (q : find_from v e 0 rest a b (used (node_at g k xs)) ≡ Some (j, o, t, u)) where
  -- the slot found is in use
  pub found_in : j < (node_at g k xs).len
  found_in = omega (arith, (find_ranged v e 0 rest a b (used (node_at g k xs))).slot j o t u q, used_short (node_at g k xs))

  -- down one level through it
  pub downward_on : (ls : List ℕ) (n : ℕ) → 0 < n → downward v g ls xs n k rest ≡ j + 1 + downward v g ls xs (n - 1) (child (get_or (node_at g k xs).slots j [])) o
  unfolding downward
  downward_on ls zero h = absurd (omega arith)
  downward_on ls (suc n) h =
      let c : Taken v 0 rest (used (node_at g k xs)) j o = find_taken v e 0 rest a b (used (node_at g k xs)) j o t u q in
      let ej : slots_before v rest (used (node_at g k xs)) ≡ j = omega (arith, c.slot) in
      let kid : get_or (used (node_at g k xs)) j [] ≡ get_or (node_at g k xs).slots j [] = get_or-take (node_at g k xs).len (node_at g k xs).slots j [] found_in in
      let eo : rest - total v (take j (used (node_at g k xs))) ≡ o = ap (λ (i : ℕ). rest - total v (take i (used (node_at g k xs)))) (sym ej) ∙ sym c.offset in
      let one : suc n - 1 ≡ n = omega arith in
      rw (ej, kid, eo, one)

-- by the finger: it doesn't serve, it is broken, or what its walk counts
module _ (v e : ℕ) (g : Shape) (f : Finger) (leaves index : ℕ) (ls : List ℕ) where
  pub slots_other : (f.view ≡ v → ⊥) → served_slots v e g f leaves index ls ≡ 0
  unfolding served_slots
  slots_other d = rw (ne_eqb f.view v d)

  pub slots_early : f.view ≡ v → index < f.start → served_slots v e g f leaves index ls ≡ 0
  unfolding served_slots
  slots_early d l = rw (eq-eqb f.view v d, lt-leb f.start index l)

  pub slots_on : f.view ≡ v → f.start ≤ index → (r : Search) → served v e g f leaves index ls ≡ r → served_slots v e g f leaves index ls ≡ finger_slots f (node_at g f.leaf ls).len r
  unfolding served_slots
  slots_on d l r q = rw (eq-eqb f.view v d, le-leb f.start index l, q)

-- a search that came to r has counted by r
pub walk_counted : (f : Finger) (len : ℕ) (w r : Search) → w ≡ r → with_slots r (finger_slots f len r) ≡ with_slots w (finger_slots f len w)
walk_counted f len w r q = ap (λ (s : Search). with_slots s (finger_slots f len s)) (sym q)

pub find_counted : (n : ℕ) (w r : Search) → w ≡ r → with_slots r (found_slots r n) ≡ with_slots w (found_slots w n)
find_counted n w r q = ap (λ (s : Search). with_slots s (found_slots s n)) (sym q)

-- the leaf at the end of the way
pub downward_end : (v : ℕ) (g : Shape) (ls xs : List ℕ) (n k x : ℕ) → n ≤ 0 → downward v g ls xs n k x ≡ slots_before v x (used (node_at g k ls)) + 1
unfolding downward
downward_end v g ls xs zero k x h = refl
downward_end v g ls xs (suc n) k x h = absurd (omega arith)

-- what was found in it, after `taken` slots on the way
pub leaf_counted : (v e : ℕ) (g : Shape) (leaves k index rest a b : ℕ) (ls : List ℕ) (j o t u taken : ℕ) → k < leaves → (node_at g k ls).len ≤ g.fan
    → find_from v e 0 rest 0 0 (used (node_at g k ls)) ≡ Some (j, o, t, u)
    → with_slots (Ok (Some (finger v k (index - rest) (wrap a) j (rest - o) (wrap t) (wrap b) (wrap u), o))) (taken + j + 1)
    ≡ (let r = leaf_of v e g leaves index ls (Ok (Some (leaf_no k, rest, a, b))) in with_slots r (found_slots r (taken + (slots_before v rest (used (node_at g k ls)) + 1))))
leaf_counted v e g leaves k index rest a b ls j o t u taken l n q =
    let z : taken + j + 1 ≡ taken + (slots_before v rest (used (node_at g k ls)) + 1) = omega (arith, (find_taken v e 0 rest 0 0 (used (node_at g k ls)) j o t u q).slot) in
    ap (with_slots (Ok (Some (finger v k (index - rest) (wrap a) j (rest - o) (wrap t) (wrap b) (wrap u), o)))) z
    ∙ find_counted (taken + (slots_before v rest (used (node_at g k ls)) + 1)) (leaf_of v e g leaves index ls (Ok (Some (leaf_no k, rest, a, b))))
    (Ok (Some (finger v k (index - rest) (wrap a) j (rest - o) (wrap t) (wrap b) (wrap u), o))) (leaf_found v e g leaves k index rest a b ls j o t u l n q)

-- by the finger, that serves and came to r, its leaf's len at hand
pub served_counted : (v e : ℕ) (g : Shape) (f : Finger) (leaves index : ℕ) (ls : List ℕ) → f.view ≡ v → f.start ≤ index → (len : ℕ) → len ≡ (node_at g f.leaf ls).len → (r : Search)
    → served v e g f leaves index ls ≡ r → with_slots r (finger_slots f len r) ≡ with_slots (served v e g f leaves index ls) (served_slots v e g f leaves index ls)
served_counted v e g f leaves index ls d l len el r q =
    ap₂ with_slots (sym q) (ap (λ (i : ℕ). finger_slots f i r) el ∙ sym (slots_on v e g f leaves index ls d l r q))

-- from the root, the slots passed on the way at hand; sb slots stand before the one found in the leaf
pub root_counted : (w r : Search) (passed levels sb n : ℕ) → w ≡ r → n ≡ passed + levels + (sb + 1) → with_slots r (found_slots r (passed + levels + (sb + 1))) ≡ with_slots w (found_slots w n)
root_counted w r passed levels sb n q e = ap₂ (λ (s : Search) (i : ℕ). with_slots s (found_slots s i)) (sym q) (sym e)
