-- The trusted words of a sound tree: `is_fit` tests exactly that, and a tree that passes is put right. Assumes nothing.
use Rattle.std.specs.Prelude.{◌≡◌, refl, Bool, true, false, not, ◌&&◌, List, [], map, ℕ, ◌≤◌, ◌<◌, get_or}
use Rattle.std.proofs.Common.{sym, ap, subst, ◌∙◌, arith, get_or-take}
use Rattle.std.proofs.Math.Dec.{leb}
use borrow.Author.Tests.{le-leb, leb-true}
use Rattle.model.specs.Kind.{stride, too_many_lines, crossed}
use Rattle.model.specs.declared.shape.Kind.{Kind}
use Rattle.model.specs.Node.{Node, child, lengths}
use Rattle.model.specs.State.{State}
use Rattle.model.specs.Sound.{Sound, leaf_in, inner_in, inners_reached, leaves_reached, slots_in, shape_in, least_leaf, least_inner}
use Rattle.model.specs.Audit.{every}
use Rattle.model.specs.declared.head.Head.{Head}
use Rattle.model.specs.Mend.{mend, is_once, is_counted, is_long, is_within, is_fit_slot, is_fit_leaf, is_fit_inner, is_fit}
use Rattle.model.specs.Repair.{Agrees}
use Rattle.model_tree.specs.Follows.{levels_most}
use Rattle.model_theory.specs.LiftTree.{tree_of}
use Rattle.model_theory.specs.LiftSound.{body_of}
use Rattle.model_theory.specs.CallMake.{Sizes}
use Rattle.model_theory.specs.AuditTests.{both, join, every_at, every_of}
use Rattle.model_theory.specs.RepairMarks.{is_once_law, once_is}
use Rattle.model_theory.specs.RepairTrusted.{TrustedCoherent, LongAreas, Repaired, sound_fits, fits_agree, agrees_back}
use Rattle.model_theory.specs.RepairWords.{mend_right, mend_agrees}

-- the trusted words of t are those of a sound tree
pub record TrustedSound (K : Kind) (t : State) : Type 0 where
  pub fits : TrustedCoherent (stride K) t
  pub lines : (k i : ℕ) → k < t.head.leaves → i < (leaf_in (stride K) t k).len → too_many_lines K (lengths (get_or (leaf_in (stride K) t k).slots i [])) ≡ false
  pub bounds : (k i : ℕ) → k < t.head.leaves → i < (leaf_in (stride K) t k).len → crossed K (lengths (get_or (leaf_in (stride K) t k).slots i [])) ≡ false

pub sound_fit : (K : Kind) (t : State) → Sound K t → TrustedSound K t
sound_fit K t w = record { fits = sound_fits (stride K) K.effect t w.coherent; lines = w.lines; bounds = w.bounds }

-- which is read from the trusted words
pub fit_agree : (K : Kind) (a b : State) → Agrees (stride K) a b → TrustedSound K b → TrustedSound K a
fit_agree K a b g f = record { fits = fits_agree (stride K) a b f.fits g; lines = λ k i lk li. kept (too_many_lines K) k i lk li (f.lines k i (more k lk) (shorter k i lk li)); bounds = λ k i lk li. kept (crossed K) k i lk li (f.bounds k i (more k lk) (shorter k i lk li)) }
  where
    same : (k i : ℕ) → k < a.head.leaves → i < (leaf_in (stride K) a k).len → get_or (leaf_in (stride K) b k).slots i [] ≡ get_or (leaf_in (stride K) a k).slots i []
    same k i lk li =
        sym (get_or-take (leaf_in (stride K) b k).len (leaf_in (stride K) b k).slots i [] (omega (arith, g.leaf_len k lk)))
        ∙ ap (λ (z : List (List ℕ)). get_or z i []) (g.leaf_slots_law k lk) ∙ get_or-take (leaf_in (stride K) a k).len (leaf_in (stride K) a k).slots i [] li

    more : (k : ℕ) → k < a.head.leaves → k < b.head.leaves
    more k lk = subst (λ (x : Head). k < x.leaves) (sym g.head) lk

    shorter : (k i : ℕ) → k < a.head.leaves → i < (leaf_in (stride K) a k).len → i < (leaf_in (stride K) b k).len
    shorter k i lk li = omega (arith, g.leaf_len k lk)

    kept : (q : List ℕ → Bool) (k i : ℕ) → k < a.head.leaves → i < (leaf_in (stride K) a k).len → q (lengths (get_or (leaf_in (stride K) b k).slots i [])) ≡ false
        → q (lengths (get_or (leaf_in (stride K) a k).slots i [])) ≡ false
    kept q k i lk li e = subst (λ (x : List ℕ). q (lengths x) ≡ false) (same k i lk li) e

-- such a tree is put right
pub areas_of_law : (K : Kind) (t : State) → Sizes K t.head.fan t.head.limit t.leaves t.inners t.homes → LongAreas (stride K) t
areas_of_law K t z = record { leaf_area = z.leaf_area; inner_area = z.inner_area; home_area = z.home_area }

module _ (K : Kind) (t : State) (f : TrustedSound K t) (areas : LongAreas (stride K) t) where
  pub right : Repaired (stride K) K.effect t (mend (stride K) t)
  right = mend_right (stride K) K.effect (omega arith) t f.fits areas

  pub agreed : Agrees (stride K) t (mend (stride K) t)
  agreed = mend_agrees (stride K) K.effect (omega arith) t f.fits areas

  pub mend_sound : Sound K (mend (stride K) t)
  mend_sound =
      let r = fit_agree K (mend (stride K) t) t (agrees_back (stride K) t (mend (stride K) t) agreed) f in
      record { coherent = right.sound; lines = r.lines; bounds = r.bounds }

  shallow : t.head.levels ≤ 15
  unfolding mend
  shallow = levels_most (tree_of (stride K) (mend (stride K) t)) (body_of (stride K) (mend (stride K) t) K.effect right.sound)

-- the test ------------------------------------------------------------------------------------------------------------------------------------

not_false : (b : Bool) → b ≡ false → not b ≡ true
not_false b e = rw e

false_not : (b : Bool) → not b ≡ true → b ≡ false
false_not false e = refl
false_not true e = absurd (let z : ◌≡◌ {A = ℕ} 0 1 = cc in omega arith)

module _ (K : Kind) (t : State) where
  abbrev h : Head
  h = t.head

  abbrev s : ℕ
  s = stride K

  long_test : (least : ℕ) (n : Node) → least ≤ n.len → n.len ≤ h.fan → is_long s t least n ≡ true
  long_test least n a b = rw (le-leb least n.len a, le-leb n.len h.fan b)

  long_by : (least : ℕ) (n : Node) → is_long s t least n ≡ true → (least ≤ n.len) × (n.len ≤ h.fan)
  long_by least n e = let r = both (leb least n.len) (leb n.len h.fan) e in (leb-true least n.len r.0, leb-true n.len h.fan r.1)

  abbrev slot_test : ℕ → ℕ → Bool
  slot_test k i = is_fit_slot K (get_or (leaf_in s t k).slots i [])

  slot_test_law : (x : List ℕ) → too_many_lines K (lengths x) ≡ false → crossed K (lengths x) ≡ false → is_fit_slot K x ≡ true
  slot_test_law x p q = join (not (too_many_lines K (lengths x))) (not (crossed K (lengths x))) (not_false (too_many_lines K (lengths x)) p) (not_false (crossed K (lengths x)) q)

  leaf_test : TrustedSound K t → (k : ℕ) → k < h.leaves → is_fit_leaf K t k ≡ true
  leaf_test f k lk =
      join (is_long s t (least_leaf s t) (leaf_in s t k)) (every (slot_test k) 0 (leaf_in s t k).len) (long_test (least_leaf s t) (leaf_in s t k) (f.fits.leaf_lens k lk).0 (f.fits.leaf_lens k lk).1)
      (every_of (slot_test k) 0 (leaf_in s t k).len (λ i lo hi. slot_test_law (get_or (leaf_in s t k).slots i []) (f.lines k i lk (omega arith)) (f.bounds k i lk (omega arith))))

  record LeafBy (k : ℕ) : Type 0 where
    pub lens : (least_leaf s t ≤ (leaf_in s t k).len) × ((leaf_in s t k).len ≤ h.fan)
    pub few : (i : ℕ) → i < (leaf_in s t k).len → too_many_lines K (lengths (get_or (leaf_in s t k).slots i [])) ≡ false
    pub ordered : (i : ℕ) → i < (leaf_in s t k).len → crossed K (lengths (get_or (leaf_in s t k).slots i [])) ≡ false

  slot_by_law : (x : List ℕ) → is_fit_slot K x ≡ true → (too_many_lines K (lengths x) ≡ false) × (crossed K (lengths x) ≡ false)
  slot_by_law x e =
      let r = both (not (too_many_lines K (lengths x))) (not (crossed K (lengths x))) e in
      (false_not (too_many_lines K (lengths x)) r.0, false_not (crossed K (lengths x)) r.1)

  leaf_by_law : (k : ℕ) → is_fit_leaf K t k ≡ true → LeafBy k
  leaf_by_law k e =
      let r = both (is_long s t (least_leaf s t) (leaf_in s t k)) (every (slot_test k) 0 (leaf_in s t k).len) e in
      record {
        lens = long_by (least_leaf s t) (leaf_in s t k) r.0;
        few = λ i li. (slot_by_law (get_or (leaf_in s t k).slots i []) (every_at (slot_test k) 0 (leaf_in s t k).len r.1 i (omega arith) (omega arith))).0;
        ordered = λ i li. (slot_by_law (get_or (leaf_in s t k).slots i []) (every_at (slot_test k) 0 (leaf_in s t k).len r.1 i (omega arith) (omega arith))).1;
      }

  abbrev ids : List ℕ
  ids = map child (slots_in s t (leaves_reached s t))

  pub fit_test : TrustedSound K t → LongAreas s t → is_fit K t ≡ true
  unfolding is_fit
  fit_test f areas =
      let w = f.fits in
      rw (
        le-leb h.entries h.limit w.entry_count,
        le-leb h.leaves (shape_in s t).nodes w.leaf_count,
        le-leb h.inners (shape_in s t).nodes w.inner_count,
        le-leb 1 h.levels w.levels_least,
        le-leb h.levels 15 (shallow K t f areas),
        every_of (is_fit_inner K t) 0 h.inners (λ k lo hi. long_test (least_inner s t k) (inner_in s t k) (w.inner_lens k (omega arith)).0 (w.inner_lens k (omega arith)).1),
        every_of (is_fit_leaf K t) 0 h.leaves (λ k lo hi. leaf_test f k (omega arith)),
        once_is h.inners (inners_reached s t) w.inners_once,
        once_is h.leaves (leaves_reached s t) w.leaves_once,
        once_is h.entries ids w.ids,
      )
      (every_of (is_within s t) 0 K.views (λ v lo hi. le-leb _ _ (w.totals v (omega arith))))

  pub test_fit : Sizes K h.fan h.limit t.leaves t.inners t.homes → is_fit K t ≡ true → TrustedSound K t
  unfolding is_fit
  test_fit z e =
      let c = is_counted s t in
      let i = every (is_fit_inner K t) 0 h.inners in
      let l = every (is_fit_leaf K t) 0 h.leaves in
      let oi = is_once h.inners (inners_reached s t) in
      let ol = is_once h.leaves (leaves_reached s t) in
      let oe = is_once h.entries ids in
      let r6 = both (c && i && l && oi && ol && oe) (every (is_within s t) 0 K.views) e in
      let r5 = both (c && i && l && oi && ol) oe r6.0 in
      let r4 = both (c && i && l && oi) ol r5.0 in
      let r3 = both (c && i && l) oi r4.0 in
      let r2 = both (c && i) l r3.0 in
      let r1 = both c i r2.0 in
      let a = leb h.entries h.limit in
      let b = leb h.leaves (shape_in s t).nodes in
      let d = leb h.inners (shape_in s t).nodes in
      let c4 = both (a && b && d && leb 1 h.levels) (leb h.levels 15) r1.0 in
      let c3 = both (a && b && d) (leb 1 h.levels) c4.0 in
      let c2 = both (a && b) d c3.0 in
      let c1 = both a b c2.0 in
      record {
        fits = record {
          fan_least = z.fan_low;
          fan_most = z.fan_high;
          limit_least = z.limit_low;
          limit_most = z.limit_high;
          entry_count = leb-true h.entries h.limit c1.0;
          leaf_count = leb-true h.leaves (shape_in s t).nodes c1.1;
          inner_count = leb-true h.inners (shape_in s t).nodes c2.1;
          levels_least = leb-true 1 h.levels c3.1;
          inners_once = is_once_law h.inners (inners_reached s t) r3.1;
          leaves_once = is_once_law h.leaves (leaves_reached s t) r4.1;
          leaf_lens = λ k lk. (leaf_by_law k (every_at (is_fit_leaf K t) 0 h.leaves r2.1 k (omega arith) (omega arith))).lens;
          inner_lens = λ k lk. long_by (least_inner s t k) (inner_in s t k) (every_at (is_fit_inner K t) 0 h.inners r1.1 k (omega arith) (omega arith));
          ids = is_once_law h.entries ids r5.1;
          totals = λ v lv. leb-true _ _ (every_at (is_within s t) 0 K.views r6.1 v (omega arith) (omega arith));
        };
        lines = λ k i lk li. (leaf_by_law k (every_at (is_fit_leaf K t) 0 h.leaves r2.1 k (omega arith) (omega arith))).few i li;
        bounds = λ k i lk li. (leaf_by_law k (every_at (is_fit_leaf K t) 0 h.leaves r2.1 k (omega arith) (omega arith))).ordered i li;
      }
