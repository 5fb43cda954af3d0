-- What soundness asks of the words that repair trusts, and of nothing else. A tree with which some sound tree agrees has it. Assumes nothing.
use Rattle.model.specs.declared.head.Finger.{Finger}
use Rattle.std.specs.Prelude.{◌≡◌, refl, ℕ, suc, ◌*◌, ◌<◌, ◌≤◌, length, get_or, None, Option}
use Rattle.std.proofs.Common.{sym, ap, subst, ◌∙◌, arith}
use mathlib.Core.List.{List, [], map}
use Rattle.model.specs.Lists.{All, range}
use Rattle.model.specs.Node.{none, child, total, used, empty_slot}
use Rattle.model.specs.State.{State, state}
use Rattle.model.specs.Place.{with_finger}
use Rattle.model.specs.Sound.{Once, CoherentAt, shape_in, leaf_in, inner_in, level, inners_reached, leaves_reached, slots_in, least_leaf, least_inner, Child, FingerRight}
use Rattle.model.specs.declared.head.Head.{Head}
use Rattle.model.specs.Mend.{no_finger}
use Rattle.model.specs.Repair.{Agrees, Same}
use Rattle.model_theory.specs.RepairLists.{In, all_in, in_all, in_flat, in_range, in_range_below, flat_same}
use Rattle.model_theory.specs.RepairUnique.{level_as, same}

-- the fields of CoherentAt that speak of the head without its finger, of len and child numbers in use, and of the lengths in leaf slots
pub record TrustedCoherent (s : ℕ) (t : State) : Type 0 where
  pub fan_least : 4 ≤ t.head.fan
  pub fan_most : t.head.fan ≤ 32
  pub limit_least : 1 ≤ t.head.limit
  pub limit_most : t.head.limit ≤ 65536
  pub entry_count : t.head.entries ≤ t.head.limit
  pub leaf_count : t.head.leaves ≤ (shape_in s t).nodes
  pub inner_count : t.head.inners ≤ (shape_in s t).nodes
  pub levels_least : 1 ≤ t.head.levels
  pub inners_once : Once t.head.inners (inners_reached s t)
  pub leaves_once : Once t.head.leaves (leaves_reached s t)
  pub leaf_lens : (k : ℕ) → k < t.head.leaves → (least_leaf s t ≤ (leaf_in s t k).len) × ((leaf_in s t k).len ≤ t.head.fan)
  pub inner_lens : (k : ℕ) → k < t.head.inners → (least_inner s t k ≤ (inner_in s t k).len) × ((inner_in s t k).len ≤ t.head.fan)
  pub ids : Once t.head.entries (map child (slots_in s t (leaves_reached s t)))
  pub totals : (v : ℕ) → suc v < s → total v (slots_in s t (leaves_reached s t)) ≤ 4294967295

-- the other fields: what repair writes, the finger dropped
pub record Settled (s : ℕ) (t : State) : Type 0 where
  pub leaf_unused : (k i : ℕ) → k < t.head.leaves → (leaf_in s t k).len ≤ i → i < t.head.fan → get_or (leaf_in s t k).slots i [] ≡ empty_slot s
  pub inner_unused : (k i : ℕ) → k < t.head.inners → (inner_in s t k).len ≤ i → i < t.head.fan → get_or (inner_in s t k).slots i [] ≡ empty_slot s
  pub root_parent : (inner_in s t t.head.root.0).parent ≡ none
  pub root_at : (inner_in s t t.head.root.0).at ≡ 0
  pub children : (d : ℕ) → d < t.head.levels → All (λ p. (i : ℕ) → i < (inner_in s t p).len → Child s t d p i (get_or (inner_in s t p).slots i [])) (level s t d)
  pub homes : (k i : ℕ) → k < t.head.leaves → i < (leaf_in s t k).len → get_or t.homes (child (get_or (leaf_in s t k).slots i [])) 0 ≡ k
  pub finger : t.head.finger ≡ None

-- areas as long as the limit needs
pub record LongAreas (s : ℕ) (t : State) : Type 0 where
  pub leaf_area : (shape_in s t).nodes * (shape_in s t).size ≤ length t.leaves
  pub inner_area : (shape_in s t).nodes * (shape_in s t).size ≤ length t.inners
  pub home_area : t.head.limit ≤ length t.homes

-- a sound tree fits; one that fits and is settled is sound
module _ (s e : ℕ) (t : State) where
  pub sound_fits : CoherentAt s t e → TrustedCoherent s t
  sound_fits w = record {
    fan_least = w.fan_least;
    fan_most = w.fan_most;
    limit_least = w.limit_least;
    limit_most = w.limit_most;
    entry_count = w.entry_count;
    leaf_count = w.leaf_count;
    inner_count = w.inner_count;
    levels_least = w.levels_least;
    inners_once = w.inners_once;
    leaves_once = w.leaves_once;
    leaf_lens = λ k g. ((w.leaf_filled k g).low, (w.leaf_filled k g).high);
    inner_lens = λ k g. ((w.inner_filled k g).low, (w.inner_filled k g).high);
    ids = w.ids;
    totals = w.totals;
  }

  pub fits_sound : TrustedCoherent s t → Settled s t → LongAreas s t → CoherentAt s t e
  fits_sound f w a = record {
    fan_least = f.fan_least;
    fan_most = f.fan_most;
    limit_least = f.limit_least;
    limit_most = f.limit_most;
    leaf_area = a.leaf_area;
    inner_area = a.inner_area;
    home_area = a.home_area;
    entry_count = f.entry_count;
    leaf_count = f.leaf_count;
    inner_count = f.inner_count;
    levels_least = f.levels_least;
    inners_once = f.inners_once;
    leaves_once = f.leaves_once;
    leaf_filled = λ k g. record { low = (f.leaf_lens k g).0; high = (f.leaf_lens k g).1; unused = λ i. w.leaf_unused k i g };
    inner_filled = λ k g. record { low = (f.inner_lens k g).0; high = (f.inner_lens k g).1; unused = λ i. w.inner_unused k i g };
    root_parent = w.root_parent;
    root_at = w.root_at;
    children = w.children;
    homes = w.homes;
    ids = f.ids;
    totals = f.totals;
    finger = subst (FingerRight s t e) (sym w.finger) tt;
  }

-- a node of a level of inner nodes is in use
pub fit_below : (s : ℕ) (t : State) → TrustedCoherent s t → (d p : ℕ) → d < t.head.levels → In p (level s t d) → p < t.head.inners
fit_below s t f d p h i = all_in (λ k. k < t.head.inners) (in_flat (level s t) (in_range 0 t.head.levels d (omega arith) (omega arith)) i) f.inners_once.below

module _ (s : ℕ) (h : Head) (fa fb : Option Finger) (la xa ha lb xb hb : List ℕ) where
  abbrev A : State
  A = state (with_finger fa h) la xa ha

  abbrev B : State
  B = state (with_finger fb h) lb xb hb

  -- A fits, B agrees with it
  module _ (wa : TrustedCoherent s A)
      (ll : (k : ℕ) → k < h.leaves → (leaf_in s B k).len ≡ (leaf_in s A k).len) (lu : (k : ℕ) → k < h.leaves → used (leaf_in s B k) ≡ used (leaf_in s A k))
      (il : (k : ℕ) → k < h.inners → (inner_in s B k).len ≡ (inner_in s A k).len) (ic : (k : ℕ) → k < h.inners → map child (used (inner_in s B k)) ≡ map child (used (inner_in s A k)))
    where
      pub levels_as : (d : ℕ) → d ≤ h.levels → level s B d ≡ level s A d
      levels_as d g = level_as s A B refl h.levels (λ d p l i. ic p (fit_below s A wa d p l i)) d g

      inners_as : inners_reached s B ≡ inners_reached s A
      inners_as =
          flat_same (level s B) (level s A) (range 0 h.levels)
          (in_all (λ d. level s B d ≡ level s A d) (range 0 h.levels) (λ d i. levels_as d (omega (arith, (in_range_below 0 h.levels i).1))))

      slots_as : slots_in s B (leaves_reached s B) ≡ slots_in s A (leaves_reached s A)
      slots_as =
          ap (slots_in s B) (levels_as h.levels (omega arith))
          ∙ flat_same (λ k. used (leaf_in s B k)) (λ k. used (leaf_in s A k)) (leaves_reached s A)
          (in_all (λ k. used (leaf_in s B k) ≡ used (leaf_in s A k)) (leaves_reached s A) (λ k i. lu k (all_in (λ k. k < h.leaves) i wa.leaves_once.below)))

      fits_as : TrustedCoherent s B
      fits_as = record {
        fan_least = wa.fan_least;
        fan_most = wa.fan_most;
        limit_least = wa.limit_least;
        limit_most = wa.limit_most;
        entry_count = wa.entry_count;
        leaf_count = wa.leaf_count;
        inner_count = wa.inner_count;
        levels_least = wa.levels_least;
        inners_once = subst (Once h.inners) (sym inners_as) wa.inners_once;
        leaves_once = subst (Once h.leaves) (sym (levels_as h.levels (omega arith))) wa.leaves_once;
        leaf_lens = λ k g. rw (ll k g) (wa.leaf_lens k g);
        inner_lens = λ k g. rw (il k g) (wa.inner_lens k g);
        ids = subst (λ (l : List (List ℕ)). Once h.entries (map child l)) (sym slots_as) wa.ids;
        totals = λ v g. subst (λ (l : List (List ℕ)). total v l ≤ 4294967295) (sym slots_as) (wa.totals v g);
      }

-- under the head x
record Like (s : ℕ) (a b : State) (x : Head) : Type 0 where
  pub fits : TrustedCoherent s (state (with_finger b.head.finger x) b.leaves b.inners b.homes)
  pub ll : (k : ℕ) → k < a.head.leaves → (leaf_in s (state (with_finger b.head.finger x) b.leaves b.inners b.homes) k).len ≡ (leaf_in s a k).len
  pub lu : (k : ℕ) → k < a.head.leaves → used (leaf_in s (state (with_finger b.head.finger x) b.leaves b.inners b.homes) k) ≡ used (leaf_in s a k)
  pub il : (k : ℕ) → k < a.head.inners → (inner_in s (state (with_finger b.head.finger x) b.leaves b.inners b.homes) k).len ≡ (inner_in s a k).len
  pub ic : (k : ℕ) → k < a.head.inners → map child (used (inner_in s (state (with_finger b.head.finger x) b.leaves b.inners b.homes) k)) ≡ map child (used (inner_in s a k))

-- whether a tree fits is read from what is trusted
pub fits_agree : (s : ℕ) (a b : State) → TrustedCoherent s b → Agrees s a b → TrustedCoherent s a
fits_agree s a b fb g =
    go (subst (Like s a b) g.head (record { fits = fb; ll = g.leaf_len; lu = g.leaf_slots_law; il = g.inner_len; ic = g.inner_children }))
  where
    go : Like s a b (no_finger a.head) → TrustedCoherent s a
    go r =
        fits_as s (no_finger a.head) b.head.finger a.head.finger b.leaves b.inners b.homes a.leaves a.inners a.homes
        r.fits (λ k l. sym (r.ll k l)) (λ k l. sym (r.lu k l)) (λ k l. sym (r.il k l)) (λ k l. sym (r.ic k l))

-- a sound tree agrees with what is trusted of a: a fits. So where a doesn't fit, none does: number 21
pub agreeing_fits : (s e : ℕ) (a b : State) → CoherentAt s b e → Agrees s a b → TrustedCoherent s a
agreeing_fits s e a b wb g = fits_agree s a b (sound_fits s e b wb) g

-- agreement goes both ways
pub agrees_back : (s : ℕ) (a b : State) → Agrees s a b → Agrees s b a
agrees_back s a b g = record {
  head = sym g.head;
  leaf_len = λ k l. sym (g.leaf_len k (leaves_less k l));
  leaf_slots_law = λ k l. sym (g.leaf_slots_law k (leaves_less k l));
  inner_len = λ k l. sym (g.inner_len k (inners_less k l));
  inner_children = λ k l. sym (g.inner_children k (inners_less k l));
}
  where
    leaves_less : (k : ℕ) → k < b.head.leaves → k < a.head.leaves
    leaves_less k l = subst (λ (x : Head). k < x.leaves) g.head l

    inners_less : (k : ℕ) → k < b.head.inners → k < a.head.inners
    inners_less k l = subst (λ (x : Head). k < x.inners) g.head l

agrees_on : (s : ℕ) (a b c : State) → Agrees s a b → Agrees s b c → Agrees s a c
agrees_on s a b c g k = record {
  head = k.head ∙ g.head;
  leaf_len = λ i l. k.leaf_len i (leaves_more i l) ∙ g.leaf_len i l;
  leaf_slots_law = λ i l. k.leaf_slots_law i (leaves_more i l) ∙ g.leaf_slots_law i l;
  inner_len = λ i l. k.inner_len i (inners_more i l) ∙ g.inner_len i l;
  inner_children = λ i l. k.inner_children i (inners_more i l) ∙ g.inner_children i l;
}
  where
    leaves_more : (i : ℕ) → i < a.head.leaves → i < b.head.leaves
    leaves_more i l = subst (λ (x : Head). i < x.leaves) (sym g.head) l

    inners_more : (i : ℕ) → i < a.head.inners → i < b.head.inners
    inners_more i l = subst (λ (x : Head). i < x.inners) (sym g.head) l

-- what a writer has to show: if a fits, and it leaves r, which agrees with what is trusted of a and is settled, then r is sound,
-- and every sound tree that agrees with a has r's nodes and homes
pub record Repaired (s e : ℕ) (a r : State) : Type 0 where
  pub sound : CoherentAt s r e
  pub only : (b : State) → CoherentAt s b e → Agrees s a b → Same s r b

pub repaired : (s e : ℕ) (a r : State) → TrustedCoherent s a → Agrees s a r → Settled s r → LongAreas s r → Repaired s e a r
repaired s e a r f g w m =
    let v : CoherentAt s r e = fits_sound s e r (fits_agree s r a f (agrees_back s a r g)) w m in
    record { sound = v; only = λ b wb gb. same s e r b v wb (agrees_on s r a b (agrees_back s a r g) gb) }
