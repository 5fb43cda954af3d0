-- Two entries of a sound tree: which stands first, by slots within a leaf, else by the paths from the root.
use Rattle.std.specs.Prelude.{◌≡◌, refl, ◌⊎◌, ◌≢◌, ℕ, suc, ◌+◌, ◌<◌, length}
use Rattle.std.proofs.Common.{sym, ap, ap₂, ◌∙◌, subst, inl, inr, arith, length-append}
use mathlib.Core.List.{List, [], ◌∷◌, ◌++◌, head-eq_of_cons-eq, tail-eq_of_cons-eq}
use Rattle.model.specs.Lists.{All}
use Rattle.model_tree.specs.Lists.{cat, cat_append, append_split, all_right, NoDup}
use Rattle.model_tree.specs.Levels.{Slot, total}
use Rattle.model_tree.specs.Next.{path, Lex, path_order}
use Rattle.model_tree.specs.Tree.{Tree, leaf_slots, order, above, BodyAt, Sound}
use Rattle.model_tree.specs.Change.{order_nodup}
use Rattle.model_tree.specs.Place.{Cur, front}

-- one place in a list without repetition
same_before : (A : List ℕ) (k : ℕ) (B A' B' : List ℕ) → A ++ k ∷ B ≡ A' ++ k ∷ B' → NoDup (A ++ k ∷ B) → A ≡ A'
unfolding All
same_before [] k B [] B' e nd = refl
same_before [] k B (x ∷ A') B' e nd = absurd ((all_right (λ y. k ≢ y) A' (k ∷ B') (subst (λ (l : List ℕ). All (λ y. k ≢ y) l) (tail-eq_of_cons-eq e) nd.0)).0 refl)
same_before (x ∷ A) k B [] B' e nd = absurd ((all_right (λ y. x ≢ y) A (k ∷ B) nd.0).0 (head-eq_of_cons-eq e))
same_before (x ∷ A) k B (x' ∷ A') B' e nd = ap₂ ◌∷◌ (head-eq_of_cons-eq e) (same_before A k B A' B' (tail-eq_of_cons-eq e) nd.1)

abbrev pub First : List ℕ → List ℕ → ℕ → ℕ → Type 0
First p q m n = Lex p q × (m < n)

abbrev pub path_to : Tree → ℕ → List ℕ
path_to s k = path s.body.leaf s.body.inner s.body.levels k

module _ (ε : ℕ) (s : Tree) (so : Sound ε s) where
  lex_in : (A : List ℕ) (k : ℕ) (M : List ℕ) (k' : ℕ) (D : List ℕ) → order s ≡ A ++ k ∷ (M ++ k' ∷ D)
      → Lex (path s.body.leaf s.body.inner s.body.levels k) (path s.body.leaf s.body.inner s.body.levels k')
  lex_in A k M k' D e =
      let b : BodyAt s (A ++ k ∷ (M ++ k' ∷ D)) (above s) = subst (λ (C : List ℕ). BodyAt s C (above s)) e so.body in
      subst (λ (d : ℕ). Lex (path s.body.leaf s.body.inner d k) (path s.body.leaf s.body.inner d k')) b.deep
      (path_order (total s.body.leaf) s.body.leaf s.body.inner s.body.root A k M k' D (above s) b.links)

  -- the beginnings of two entries' rows, by leaves and slots
  sizes : (A : List ℕ) (k : ℕ) (M : List ℕ) (F₁ : List Slot) (e : Slot) (F₂ G : List Slot) → leaf_slots s k ≡ F₁ ++ e ∷ F₂
      → length (cat s.body.leaf.slots A ++ F₁) < length (cat s.body.leaf.slots (A ++ k ∷ M) ++ G)
  sizes A k M F₁ e F₂ G q =
      let a : length (cat s.body.leaf.slots A ++ F₁) ≡ length (cat s.body.leaf.slots A) + length F₁ = length-append (cat s.body.leaf.slots A) F₁ in
      let c : length (cat s.body.leaf.slots (A ++ k ∷ M) ++ G) ≡ length (cat s.body.leaf.slots (A ++ k ∷ M)) + length G = length-append (cat s.body.leaf.slots (A ++ k ∷ M)) G in
      let d : length (cat s.body.leaf.slots (A ++ k ∷ M)) ≡ length (cat s.body.leaf.slots A) + length (leaf_slots s k ++ cat s.body.leaf.slots M)
      = ap length (cat_append s.body.leaf.slots A (k ∷ M)) ∙ length-append (cat s.body.leaf.slots A) (leaf_slots s k ++ cat s.body.leaf.slots M) in
      let f : length (leaf_slots s k ++ cat s.body.leaf.slots M) ≡ length (leaf_slots s k) + length (cat s.body.leaf.slots M) = length-append (leaf_slots s k) (cat s.body.leaf.slots M) in
      let g : length (leaf_slots s k) ≡ length F₁ + suc (length F₂) = ap length q ∙ length-append F₁ (e ∷ F₂) in
      omega arith

  -- two entries: in different leaves their paths say which stands first, in one leaf their slots do
  module _ (a b : ℕ) (k j k' j' : ℕ) (x : Cur ε s a k j) (y : Cur ε s b k' j') where
    pub by_path_law : k ≢ k'
        → First (path_to s k) (path_to s k') (length (front x)) (length (front y)) ⊎ First (path_to s k') (path_to s k) (length (front y)) (length (front x))
    by_path_law nk = go (append_split x.A (k ∷ x.B) y.A k' y.B (sym x.leaves ∙ y.leaves))
      where
        right : (Y : List ℕ) → y.A ≡ x.A ++ Y → k ∷ x.B ≡ Y ++ k' ∷ y.B → First (path_to s k) (path_to s k') (length (front x)) (length (front y))
        right [] e q = absurd (nk (head-eq_of_cons-eq q))
        right (z ∷ M) e q =
            let zk : k ≡ z = head-eq_of_cons-eq q in
            let e' : y.A ≡ x.A ++ k ∷ M = e ∙ ap (λ (w : ℕ). x.A ++ w ∷ M) (sym zk) in (
              lex_in x.A k M k' y.B (x.leaves ∙ ap (λ (w : List ℕ). x.A ++ k ∷ w) (tail-eq_of_cons-eq q)),
              subst (λ (C : List ℕ). length (cat s.body.leaf.slots x.A ++ x.F₁) < length (cat s.body.leaf.slots C ++ y.F₁)) (sym e') (sizes x.A k M x.F₁ x.e x.F₂ y.F₁ x.slots),
            )

        go : ((F : List ℕ) × (x.A ≡ y.A ++ k' ∷ F) × (y.B ≡ F ++ k ∷ x.B)) ⊎ ((Y : List ℕ) × (y.A ≡ x.A ++ Y) × (k ∷ x.B ≡ Y ++ k' ∷ y.B))
            → First (path_to s k) (path_to s k') (length (front x)) (length (front y)) ⊎ First (path_to s k') (path_to s k) (length (front y)) (length (front x))
        go (inl r) = inr (
          lex_in y.A k' r.0 k x.B (y.leaves ∙ ap (λ (w : List ℕ). y.A ++ k' ∷ w) r.2),
          subst (λ (C : List ℕ). length (cat s.body.leaf.slots y.A ++ y.F₁) < length (cat s.body.leaf.slots C ++ x.F₁)) (sym r.1) (sizes y.A k' r.0 y.F₁ y.e y.F₂ x.F₁ y.slots),
        )
        go (inr r) = inl (right r.0 r.1 r.2)

    pub by_slot : k ≡ k' → length (front x) + j' ≡ length (front y) + j
    by_slot q =
        let eA : x.A ≡ y.A = same_before x.A k x.B y.A y.B (sym x.leaves ∙ y.leaves ∙ ap (λ (w : ℕ). y.A ++ w ∷ y.B) (sym q)) (order_nodup s (x.A ++ k ∷ x.B) (above s) x.body) in
        let la : length (cat s.body.leaf.slots x.A ++ x.F₁) ≡ length (cat s.body.leaf.slots x.A) + j
        = length-append (cat s.body.leaf.slots x.A) x.F₁ ∙ ap (λ (n : ℕ). length (cat s.body.leaf.slots x.A) + n) (sym x.index) in
        let lb : length (cat s.body.leaf.slots y.A ++ y.F₁) ≡ length (cat s.body.leaf.slots x.A) + j'
        = length-append (cat s.body.leaf.slots y.A) y.F₁ ∙ ap₂ (λ (C : List ℕ) (n : ℕ). length (cat s.body.leaf.slots C) + n) (sym eA) (sym y.index) in
        omega arith
