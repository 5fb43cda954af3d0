-- Where a search finds an entry, on any words: the finger that it gives stands at a slot in use of a leaf in use. Assumes nothing.
use Rattle.model.specs.Numbered.{broken}
use Rattle.std.specs.Prelude.{◌≡◌, refl, Bool, true, false, ◌&&◌, ℕ, ◌-◌, ◌≤◌, ◌<◌, eqb, drop, Ok, Err, Some, None, Option}
use Rattle.std.proofs.Common.{arith, ltb-true, leb-true}
use Rattle.std.proofs.Math.Dec.{ltb, leb}
use Rattle.model.specs.declared.shape.Kind.{Kind}
use Rattle.model.specs.Node.{used, find_from}
use Rattle.model.specs.State.{State, node_at}
use Rattle.model.specs.Locate.{back, moved_to, walked, served, served_by, descend, set_in, leaf_of, from_root}
use Rattle.model.specs.Refuse.{shape_of}
use Rattle.model.specs.Node.{Found}
use Rattle.model.specs.declared.head.Finger.{Finger}
use Rattle.model.specs.Locate.{Descent}
use Rattle.model.specs.Locate.{Search}
use Rattle.model_laws.specs.Find.{used_ranged}
use Rattle.model_laws.specs.Locate.{back_slot}
use Rattle.model_laws.specs.Lens.{by_test}

every : (a b : Bool) → (a && b) ≡ true → (a ≡ true) × (b ≡ true)
every true b e = (refl, e)
every false b e = absurd (let z : ◌≡◌ {A = ℕ} 0 1 = cc in omega arith)

module _ (K : Kind) (s : State) where
  -- the finger that a search finds stands at a slot in use of a leaf in use
  pub record SlotInUse (f : Finger) : Type 0 where
    pub leaf : f.leaf < s.head.leaves
    pub filled : (node_at (shape_of K s.head) f.leaf s.leaves).len ≤ s.head.fan
    pub slot : f.slot < (node_at (shape_of K s.head) f.leaf s.leaves).len

  abbrev pub Finds : Search → Type 0
  Finds (Ok (Some (f, offset))) = SlotInUse f
  Finds (Ok None) = Unit {0}
  Finds (Err _) = Unit {0}

  module _ (v : ℕ) where
    moved_finds : (f : Finger) (index : ℕ) (r : Found) → f.leaf < s.head.leaves → (node_at (shape_of K s.head) f.leaf s.leaves).len ≤ s.head.fan
        → ((j o t u : ℕ) → r ≡ Some (j, o, t, u) → j < (node_at (shape_of K s.head) f.leaf s.leaves).len) → Finds (moved_to v K.effect f index r)
    moved_finds f index (Some (j, o, t, u)) a b c = record { leaf = a; filled = b; slot = c j o t u refl }
    moved_finds f index None a b c = tt

    walked_finds : (f : Finger) (index : ℕ) → f.leaf < s.head.leaves → (node_at (shape_of K s.head) f.leaf s.leaves).len ≤ s.head.fan → f.slot < (node_at (shape_of K s.head) f.leaf s.leaves).len
        → Finds (walked v K.effect f index (used (node_at (shape_of K s.head) f.leaf s.leaves)))
    unfolding walked
    walked_finds f index a b c =
        let slots = used (node_at (shape_of K s.head) f.leaf s.leaves) in
        let d = back v K.effect slots index f.slot f.within f.effect_within f.prepare_within in
        let le : d.slot ≤ f.slot = back_slot v K.effect slots index f.slot f.within f.effect_within f.prepare_within in
        by_test Finds (ltb index d.within) (Err broken) (moved_to v K.effect f index (find_from v K.effect d.slot (index - d.within) d.within_effect d.within_prepare (drop d.slot slots))) (λ _. tt)
        (λ _. moved_finds f index (find_from v K.effect d.slot (index - d.within) d.within_effect d.within_prepare (drop d.slot slots)) a b
        (λ j o t u q. let z = (used_ranged (shape_of K s.head) v K.effect f.leaf d.slot (index - d.within) d.within_effect d.within_prepare s.leaves b (omega arith)).slot j o t u q in omega arith))

    served_finds : (f : Finger) (x : ℕ) → Finds (served v K.effect (shape_of K s.head) f s.head.leaves x s.leaves)
    unfolding served
    served_finds f x =
        let m = node_at (shape_of K s.head) f.leaf s.leaves in
        by_test Finds (eqb f.view v && leb f.start x) _ (Ok None)
        (λ _. by_test Finds (ltb f.leaf s.head.leaves && leb m.len s.head.fan && ltb f.slot m.len) (walked v K.effect f (x - f.start) (used m)) (Err broken)
        (λ e. let t = every (ltb f.leaf s.head.leaves && leb m.len s.head.fan) (ltb f.slot m.len) e in
        let u = every (ltb f.leaf s.head.leaves) (leb m.len s.head.fan) t.0 in
        walked_finds f (x - f.start) (ltb-true f.leaf s.head.leaves u.0) (leb-true m.len s.head.fan u.1) (ltb-true f.slot m.len t.1))
        (λ _. tt))
        (λ _. tt)

    pub held_finds : (h : Option Finger) (x : ℕ) → Finds (served_by v K.effect (shape_of K s.head) h s.head.leaves x s.leaves)
    held_finds None x = tt
    held_finds (Some f) x = served_finds f x

    set_finds : (k index rest n p : ℕ) (r : Found) → k < s.head.leaves → (node_at (shape_of K s.head) k s.leaves).len ≤ s.head.fan
        → ((j o t u : ℕ) → r ≡ Some (j, o, t, u) → j < (node_at (shape_of K s.head) k s.leaves).len) → Finds (set_in v K.effect (shape_of K s.head) k index rest n p r)
    set_finds k index rest n p (Some (j, o, t, u)) a b c = record { leaf = a; filled = b; slot = c j o t u refl }
    set_finds k index rest n p None a b c = tt

    leaf_finds : (x : ℕ) (d : Descent) → Finds (leaf_of v K.effect (shape_of K s.head) s.head.leaves x s.leaves d)
    leaf_finds x (Ok (Some (k, rest, n, p))) =
        let m = node_at (shape_of K s.head) k.0 s.leaves in
        by_test Finds (ltb k.0 s.head.leaves && leb m.len s.head.fan) (set_in v K.effect (shape_of K s.head) k.0 x rest n p (find_from v K.effect 0 rest 0 0 (used m))) (Err broken)
        (λ e. let t = every (ltb k.0 s.head.leaves) (leb m.len s.head.fan) e in
        let b = leb-true m.len s.head.fan t.1 in
        set_finds k.0 x rest n p (find_from v K.effect 0 rest 0 0 (used m)) (ltb-true k.0 s.head.leaves t.0) b
        (λ j o t u q. let z = (used_ranged (shape_of K s.head) v K.effect k.0 0 rest 0 0 s.leaves b (omega arith)).slot j o t u q in omega arith))
        (λ _. tt)
    leaf_finds x (Ok None) = tt
    leaf_finds x (Err _) = tt

    pub root_finds : (x : ℕ) → Finds (from_root v K.effect (shape_of K s.head) s.head.levels s.head.root.0 s.head.leaves x s.leaves s.inners)
    unfolding from_root
    root_finds x = leaf_finds x (descend v K.effect (shape_of K s.head) (Ok None) s.head.levels s.head.root.0 x 0 0 s.inners)
