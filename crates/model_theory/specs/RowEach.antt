-- What holds of every entry of a row holds of every part of it, and of the row with an entry put in, changed or divided; and it holds of a tree's
-- entries exactly where it holds of every leaf slot in use.
use Rattle.std.specs.Prelude.{◌≡◌, Bool, cond, eqb, get_or}
use Rattle.std.proofs.Common.{sym, arith, eq-eqb, ne_eqb}
use Rattle.std.proofs.Math.Path.{subst}
use Rattle.std.proofs.Math.Bool.{true, false}
use mathlib.Core.List.{List, [], ◌∷◌, zip_with}
use Prim.Native.Nat.{ℕ, suc, ◌-◌, ◌<◌}
use Rattle.std.proofs.Math.Decide.{ℕ_discrete}
use Rattle.std.proofs.Math.ListN.{length}
use Rattle.model.specs.Kind.{stride}
use Rattle.model.specs.declared.shape.Kind.{Kind}
use Rattle.model.specs.Lists.{All, Cause, refusal}
use Rattle.model.specs.Node.{child, lengths, used}
use Rattle.model.specs.State.{State}
use Rattle.model.specs.Row as row
use Rattle.model.specs.Row.{Row, Entry, entry, Answer, moved, refused, before, from, after, divided, unless}
use Rattle.model.specs.Sound.{leaf_in, leaves_reached, slots_in, Coherent, entries_of}
use Rattle.model_laws.specs.Lists.{all_at_at, all_drop}
use Rattle.model_tree.specs.Lists.{all_map, all_append, all_of_map, all_cat, uncat}
use Rattle.model_tree.specs.Edit.{all_mapped}
use Rattle.model_tree.specs.Pigeon.{is_in}
use Rattle.model_tree.specs.CheckBack.{all_in_at}
use Rattle.model_theory.specs.LiftCount.{flat_cat, once_in}
use Rattle.model_theory.specs.WordTidy.{Tidy, len_used, slot_used}
use Rattle.model_theory.specs.WordNeat.{neat_of}

-- the row -----------------------------------------------------------------------------------------------------------------------------------

module _ (Q : Entry → Type 0) where
  pub before_all : (i : ℕ) (es : List Entry) → All Q es → All Q (before i es)
  unfolding All before
  before_all i [] h = h
  before_all i (e ∷ es) h = go (eqb e.id i) (before_all i es h.1)
    where
      go : (b : Bool) → All Q (before i es) → All Q (cond b [] (e ∷ before i es))
      go true k = tt
      go false k = (h.0, k)

  pub from_all : (i : ℕ) (es : List Entry) → All Q es → All Q (from i es)
  unfolding All from
  from_all i [] h = h
  from_all i (e ∷ es) h = go (eqb e.id i) (from_all i es h.1)
    where
      go : (b : Bool) → All Q (from i es) → All Q (cond b (e ∷ es) (from i es))
      go true k = h
      go false k = k

  after_all : (i : ℕ) (es : List Entry) → All Q es → All Q (after i es)
  after_all i es h = all_drop Q 1 (from i es) (from_all i es h)

  pub inserted_all : (i : ℕ) (e : Entry) (es : List Entry) → Q e → All Q es → All Q (row.inserted i e es)
  unfolding All
  inserted_all i e es f h = all_append Q (before i es) (e ∷ from i es) (before_all i es h) (f, from_all i es h)

  pub changed_all : (i : ℕ) (l : List ℕ) (es : List Entry) → Q (entry i l) → All Q es → All Q (row.changed i l es)
  unfolding All
  changed_all i l es f h = all_append Q (before i es) (entry i l ∷ after i es) (before_all i es h) (f, after_all i es h)

  -- of the new entry, and of what is left of the old one
  pub divided_all : (flag : Bool) (i : ℕ) (e : Entry) (es : List Entry) → Q e → Q (entry i (zip_with ◌-◌ (row.lengths_of i es) e.lengths)) → All Q es → All Q (divided flag i e es)
  unfolding All divided
  divided_all flag i e es f g h = all_append Q (before i es) (cond flag (e ∷ rest ∷ after i es) (rest ∷ e ∷ after i es)) (before_all i es h) (go flag)
    where
      rest : Entry
      rest = entry i (zip_with ◌-◌ (row.lengths_of i es) e.lengths)

      go : (b : Bool) → All Q (cond b (e ∷ rest ∷ after i es) (rest ∷ e ∷ after i es))
      go true = (f, (g, after_all i es h))
      go false = (g, (f, after_all i es h))

  -- a call that isn't refused, and one that is
  pub unless_all : (r : Row) (cs : List Cause) (es : List Entry) (a : Answer) → All Q r.entries → (refusal cs ≡ 0 → All Q es) → All Q (unless r cs es a).after.entries
  unfolding unless
  unless_all r cs es a h k = go (ℕ_discrete (refusal cs) 0)
    where
      go : Dec (refusal cs ≡ 0) → All Q (cond (eqb (refusal cs) 0) (moved (row.row r.limit es) a) (moved r (refused (refusal cs)))).after.entries
      go (yes e) = rw (eq-eqb (refusal cs) 0 e) (k e)
      go (no ne) = rw (ne_eqb (refusal cs) 0 ne) h

-- the tree ----------------------------------------------------------------------------------------------------------------------------------

all_each : {A : Type 0} (Q : A → Type 0) (d : A) (xs : List A) → ((j : ℕ) → j < length xs → Q (get_or xs j d)) → All Q xs
unfolding All
all_each Q d [] h = tt
all_each Q d (x ∷ xs) h = (h 0 (omega arith), all_each Q d xs (λ j lt. h (suc j) (omega arith)))

module _ (K : Kind) (t : State) (w : Coherent K t) (Q : List ℕ → Type 0) where
  -- of an entry's lengths, and of a slot's
  abbrev Own : Entry → Type 0
  Own e = Q e.lengths

  abbrev OwnAt : List ℕ → Type 0
  OwnAt x = Q (lengths x)

  abbrev of_slot : List ℕ → Entry
  of_slot x = entry (child x) (lengths x)

  abbrev used_in : ℕ → List (List ℕ)
  used_in k = used (leaf_in (stride K) t k)

  reached : List ℕ
  reached = leaves_reached (stride K) t

  tidy : (k : ℕ) → k < t.head.leaves → Tidy (stride K) t.head.fan (leaf_in (stride K) t k)
  tidy k lk = (neat_of (stride K) t K.effect w).leaf_tidy k lk

  pub of_slots : ((k i : ℕ) → k < t.head.leaves → i < (leaf_in (stride K) t k).len → OwnAt (get_or (leaf_in (stride K) t k).slots i [])) → All Own (entries_of K t)
  unfolding entries_of reached
  of_slots s =
      all_mapped Own of_slot (slots_in (stride K) t reached)
      (subst (All OwnAt) (sym (flat_cat used_in reached))
      (all_cat OwnAt used_in reached (all_map (λ k. k < t.head.leaves) (λ k. All OwnAt (used_in k)) here reached w.leaves_once.below)))
    where
      here : (k : ℕ) → k < t.head.leaves → All OwnAt (used_in k)
      here k lk = all_each OwnAt [] (used_in k)
          (λ j lj. subst OwnAt (slot_used (stride K) t.head.fan (leaf_in (stride K) t k) (tidy k lk) j [] lj)
          (s k j lk (let z = len_used (stride K) t.head.fan (leaf_in (stride K) t k) (tidy k lk) in omega arith)))

  pub to_slots : All Own (entries_of K t) → (k i : ℕ) → k < t.head.leaves → i < (leaf_in (stride K) t k).len → OwnAt (get_or (leaf_in (stride K) t k).slots i [])
  unfolding entries_of reached
  to_slots h k i lk li =
      let lu : i < length (used_in k) = (let z = len_used (stride K) t.head.fan (leaf_in (stride K) t k) (tidy k lk) in omega arith) in
      subst OwnAt (sym (slot_used (stride K) t.head.fan (leaf_in (stride K) t k) (tidy k lk) i [] lu))
      (all_at_at OwnAt i [] (used_in k) lu (all_in_at (λ k. All OwnAt (used_in k)) k reached (is_in k reached (once_in t.head.leaves reached w.leaves_once k lk)) each))
    where
      each : All (λ k. All OwnAt (used_in k)) reached
      each = uncat OwnAt used_in reached (subst (All OwnAt) (flat_cat used_in reached) (all_of_map Own of_slot (slots_in (stride K) t reached) h))
