-- From an id to its place by homes and the index in the leaf; the first and the last leaf.
use Rattle.std.specs.Prelude.{◌≡◌, refl, ◌≢◌, true, false, List, [], ◌∷◌, ◌++◌, map, ℕ, zero, suc, ◌+◌, ◌-◌, ◌≤◌, ◌<◌, eqb, length, get_or}
use Rattle.std.proofs.Common.{sym, ap, ap₂, ◌∙◌, subst, append_assoc, append-nil, not-suc-le-zero, arith, eq-eqb, ne_eqb, length-append}
use Rattle.std.proofs.lemmas.List.{length-map}
use Rattle.std.proofs.Math.Seq.{get_or-append_seam}
use Rattle.model.specs.Lists.{All}
use Rattle.model_tree.specs.Lists.{cat, cat_append, map_append, all_map, all_right, all_cat, NoDup, pairs_before, InCat, cat_split, MapAt, map_split}
use Rattle.model_tree.specs.Levels.{no_slot, Slot, Area}
use Rattle.model_tree.specs.Sound.{lvl, stack, kids_of}
use Rattle.model_tree.specs.Pigeon.{In, each_in}
use Rattle.model_tree.specs.Tree.{Tree, leaf_slots, order, row, id_of, Body}
use Rattle.model_tree.specs.Edit.{all_mapped}
use Rattle.model_tree.specs.Split.{nodup_slots}

-- no slot of a list holds that child
abbrev pub Without : ℕ → List Slot → Type 0
Without id l = All (λ e. e.child ≢ id) l

-- `index_of`
abbrev pub index_of : ℕ → List Slot → ℕ
index_of id [] = 0
index_of id (e ∷ l) = elim (eqb e.child id) [ true ↦ 0 | false ↦ suc (index_of id l) ]

pub index_at : (id : ℕ) (F₁ : List Slot) (e : Slot) (F₂ : List Slot) → Without id F₁ → e.child ≡ id → index_of id (F₁ ++ e ∷ F₂) ≡ length F₁
unfolding All
index_at id [] e F₂ w q = rw (eq-eqb e.child id q, index_of)
index_at id (x ∷ F₁) e F₂ w q = rw (ne_eqb x.child id w.0, index_of) (ap suc (index_at id F₁ e F₂ w.1 q))

-- the entry of an id: its leaf is its home
pub record EntrySlot (s : Tree) (id : ℕ) : Type 0 where
  pub A : List ℕ
  pub B : List ℕ
  pub F₁ : List Slot
  pub e : Slot
  pub F₂ : List Slot
  pub leaves : order s ≡ A ++ s.homes id ∷ B
  pub slots : leaf_slots s (s.homes id) ≡ F₁ ++ e ∷ F₂
  pub index : index_of id (leaf_slots s (s.homes id)) ≡ length F₁
  pub own : e.child ≡ id
  pub row : row s ≡ (cat s.body.leaf.slots A ++ F₁) ++ e ∷ (F₂ ++ cat s.body.leaf.slots B)
  pub apart : Without id (cat s.body.leaf.slots A ++ F₁)

pub entry_of : (s : Tree) → Body s → (id : ℕ) → id < s.entries → EntrySlot s id
unfolding All
entry_of s b id lt = go1 (each_in (map id_of (row s)) s.entries b.once ids (length-map (row s) id_of ∙ b.count) id lt)
  where
    ids : All (λ k. k < s.entries) (map id_of (row s))
    ids = all_mapped (λ k. k < s.entries) id_of (row s) (all_cat (λ e. e.child < s.entries) s.body.leaf.slots (order s)
        (all_map (λ x. x < s.leaves) (λ x. All (λ e. e.child < s.entries) (leaf_slots s x)) (λ x lt. b.below x lt) (order s) b.leaf_in_law))

    go3 : (X : List Slot) (e : Slot) (Y : List Slot) → row s ≡ X ++ e ∷ Y → e.child ≡ id → InCat s.body.leaf.slots (order s) X e Y → EntrySlot s id
    go3 X e Y q own z =
        let lk : z.p < s.leaves = (all_right (λ x. x < s.leaves) z.P₁ (z.p ∷ z.P₂) (subst (λ (l : List ℕ). All (λ x. x < s.leaves) l) z.row b.leaf_in_law)).0 in
        let hm : s.homes e.child ≡ z.p = (all_right (λ x. s.homes x.child ≡ z.p) z.F₁ (e ∷ z.F₂) (subst (λ (l : List Slot). All (λ x. s.homes x.child ≡ z.p) l) z.own (b.homed z.p lk))).0 in
        let hi : z.p ≡ s.homes id = sym hm ∙ ap s.homes own in
        let qr : row s ≡ (cat s.body.leaf.slots z.P₁ ++ z.F₁) ++ e ∷ (z.F₂ ++ cat s.body.leaf.slots z.P₂) = q ∙ ap₂ (λ (x y : List Slot). x ++ e ∷ y) z.before z.after in
        let ap : Without id (cat s.body.leaf.slots z.P₁ ++ z.F₁)
        = all_map (λ x. x.child ≢ e.child) (λ x. x.child ≢ id) (λ x ne r. ne (r ∙ sym own)) (cat s.body.leaf.slots z.P₁ ++ z.F₁)
        (pairs_before (λ x y. x.child ≢ y.child) (cat s.body.leaf.slots z.P₁ ++ z.F₁) e (z.F₂ ++ cat s.body.leaf.slots z.P₂) (nodup_slots ((cat s.body.leaf.slots z.P₁ ++ z.F₁) ++ e ∷ (z.F₂ ++ cat s.body.leaf.slots z.P₂)) (subst (λ (l : List Slot). NoDup (map id_of l)) qr b.once))) in
        let sl : leaf_slots s (s.homes id) ≡ z.F₁ ++ e ∷ z.F₂ = subst (λ (x : ℕ). leaf_slots s x ≡ z.F₁ ++ e ∷ z.F₂) hi z.own in
        record {
          A = z.P₁;
          B = z.P₂;
          F₁ = z.F₁;
          e = e;
          F₂ = z.F₂;
          leaves = subst (λ (x : ℕ). order s ≡ z.P₁ ++ x ∷ z.P₂) hi z.row;
          slots = sl;
          index = subst (λ (l : List Slot). index_of id l ≡ length z.F₁) (sym sl) (index_at id z.F₁ e z.F₂ (all_right (λ x. x.child ≢ id) (cat s.body.leaf.slots z.P₁) z.F₁ ap) own);
          own = own;
          row = qr;
          apart = ap;
        }

    go2 : (i : In id (map id_of (row s))) → MapAt id_of (row s) i.before id i.after → EntrySlot s id
    go2 i m = go3 m.A₁ m.c m.A₂ m.row m.own (cat_split s.body.leaf.slots (order s) m.A₁ m.c m.A₂ m.row)

    go1 : In id (map id_of (row s)) → EntrySlot s id
    go1 i = go2 i (map_split id_of (row s) i.before id i.after i.row)

-- down the right edge, down the left edge
abbrev pub last_child : List Slot → ℕ
last_child l = (get_or l (length l - 1) no_slot).child

abbrev pub last_at : Area → ℕ → ℕ → ℕ
last_at up root zero = root
last_at up root (suc d) = last_child (up.slots (last_at up root d))

abbrev pub first_at : Area → ℕ → ℕ → ℕ
first_at up root zero = root
first_at up root (suc d) = (get_or (up.slots (first_at up root d)) 0 no_slot).child

last_slot : (l : List Slot) → 1 ≤ length l → (X : List Slot) × (e : Slot) × (l ≡ X ++ e ∷ [])
last_slot [] h = absurd (not-suc-le-zero h)
last_slot (x ∷ []) h = ([], x, refl)
last_slot (x ∷ y ∷ l) h = let r = last_slot (y ∷ l) (omega arith) in (x ∷ r.0, r.1, ap {B = List Slot} (λ z. x ∷ z) r.2)

last_child_law : (X : List Slot) (e : Slot) → last_child (X ++ e ∷ []) ≡ e.child
last_child_law X e =
    let z : length (X ++ e ∷ []) - 1 ≡ length X = let y : length (X ++ e ∷ []) ≡ length X + 1 = length-append X (e ∷ []) in omega arith in
    ap (λ (n : ℕ). (get_or (X ++ e ∷ []) n no_slot).child) z ∙ ap (λ (y : Slot). y.child) (get_or-append_seam X e [] no_slot)

pub last_of : (up : Area) (root d : ℕ) → All (All (λ p. 1 ≤ length (up.slots p))) (stack up root d) → (X : List ℕ) × (lvl up root d ≡ X ++ last_at up root d ∷ [])
unfolding All
last_of up root zero h = ([], refl)
last_of up root (suc d) h = go (last_of up root d h.1)
  where
    go : (X : List ℕ) × (lvl up root d ≡ X ++ last_at up root d ∷ []) → (X : List ℕ) × (lvl up root (suc d) ≡ X ++ last_at up root (suc d) ∷ [])
    go r =
        let p : ℕ = last_at up root d in
        let hp : 1 ≤ length (up.slots p) = (all_right (λ p. 1 ≤ length (up.slots p)) r.0 (p ∷ []) (subst (λ (l : List ℕ). All (λ p. 1 ≤ length (up.slots p)) l) r.1 h.0)).0 in
        let q = last_slot (up.slots p) hp in (
          cat (kids_of up) r.0 ++ map (λ s. s.child) q.0,
          ap (cat (kids_of up)) r.1 ∙ cat_append (kids_of up) r.0 (p ∷ [])
              ∙ ap (λ (l : List ℕ). cat (kids_of up) r.0 ++ l) (append-nil (kids_of up p) ∙ ap (map (λ s. s.child)) q.2 ∙ map_append (λ s. s.child) q.0 (q.1 ∷ []))
              ∙ sym (append_assoc (cat (kids_of up) r.0) (map (λ s. s.child) q.0) (q.1.child ∷ []))
              ∙ ap (λ (n : ℕ). (cat (kids_of up) r.0 ++ map (λ s. s.child) q.0) ++ n ∷ []) (sym (last_child_law q.0 q.1) ∙ ap last_child (sym q.2)),
        )

pub first_of_law : (up : Area) (root d : ℕ) → All (All (λ p. 1 ≤ length (up.slots p))) (stack up root d) → (X : List ℕ) × (lvl up root d ≡ first_at up root d ∷ X)
unfolding All
first_of_law up root zero h = ([], refl)
first_of_law up root (suc d) h = go (first_of_law up root d h.1)
  where
    dig : (p : ℕ) (X : List ℕ) (l : List Slot) → up.slots p ≡ l → 1 ≤ length l → (Y : List ℕ) × (cat (kids_of up) (p ∷ X) ≡ (get_or (up.slots p) 0 no_slot).child ∷ Y)
    dig p X [] e h = absurd (not-suc-le-zero h)
    dig p X (y ∷ l) e h = (map (λ s. s.child) l ++ cat (kids_of up) X, rw e)

    go : (X : List ℕ) × (lvl up root d ≡ first_at up root d ∷ X) → (X : List ℕ) × (lvl up root (suc d) ≡ first_at up root (suc d) ∷ X)
    go r =
        let p : ℕ = first_at up root d in
        let hp : 1 ≤ length (up.slots p) = (subst (λ (l : List ℕ). All (λ p. 1 ≤ length (up.slots p)) l) r.1 h.0).0 in
        let q = dig p r.0 (up.slots p) refl hp in
        (q.0, ap (cat (kids_of up)) r.1 ∙ q.1)
