-- The children of a node learn where they stand: the model's loop is `adopt_at`.
use Rattle.std.specs.Prelude.{◌≡◌, refl, length, get_or}
use Rattle.std.proofs.Math.Path.{sym, ap}
use Rattle.std.proofs.Common.{◌∙◌, subst, add-one, arith, length-append, lt-ltb}
use mathlib.Core.List.{List, [], ◌∷◌, ◌++◌, map, append_assoc}
use Prim.Native.Nat.{ℕ, zero, suc, ◌<◌}
use Rattle.std.proofs.Math.Decide.{ℕ_discrete}
use Rattle.std.proofs.Math.Seq.{get_or-append_seam}
use Rattle.model.specs.Lists.{All}
use Rattle.model.specs.Node.{Node, child, adopted}
use Rattle.model.specs.State.{node_at, put_node}
use Rattle.model.specs.Grow.{Areas, linked, Top, adopt, adopt_all}
use Rattle.model.specs.declared.shape.Shape.{Shape}
use Rattle.model_laws.specs.Nodes.{Formed}
use Rattle.model_laws.specs.Areas.{node_same, node_other}
use Rattle.model_theory.specs.WordFits.{NodeSized, NodeFits, fits}
use Rattle.model_tree.specs.Levels.{Slot, Area}
use Rattle.model_tree.specs.Update as add
use Rattle.model_tree.specs.Insert.{Trunk, adopt_at}
use Rattle.model_theory.specs.WordTidy.{Tidy, tidy_formed}
use Rattle.model_theory.specs.LiftTree.{slot_of, slots_of, area_of, put_area, area_ext}
use Rattle.model_theory.specs.ChangeSlot.{adopted_tidy}
use Rattle.model_theory.specs.WordPut.{Keeps, upd_own, put_same, put_area_law}

-- both areas and what the head says of the inner nodes, as the abstract tree's trunk
abbrev pub trunk_of : Shape → Areas → Top → Trunk
trunk_of g a t = record { leaf = area_of g a.leaves; inner = area_of g a.inners; root = t.root; next = t.inners; levels = t.levels }

-- height 0: the children are leaves; above, inner nodes. L leaves and N inner nodes are in use
abbrev pub level_of : ℕ → ℕ
level_of zero = 1
level_of (suc h) = 2

abbrev pub count_of : ℕ → ℕ → ℕ → ℕ
count_of zero L N = L
count_of (suc h) L N = N

pub record Both (g : Shape) (L N : ℕ) (a : Areas) : Type 0 where
  pub leaf : Keeps g L a.leaves
  pub inner : Keeps g N a.inners

-- what becomes of the areas when the children in rows, which node p holds from place i on, learn it
pub record Adopted (g : Shape) (L N h p i : ℕ) (a : Areas) (rows : List (List ℕ)) : Type 0 where
  pub after : Areas
  pub is : adopt_all g (level_of h) p (length rows) i a ≡ linked 0 after
  pub trunk : (t : Top) → trunk_of g after t ≡ adopt_at h (trunk_of g a t) p i (map slot_of rows)
  pub both : Both g L N after

module _ (g : Shape) (sized : NodeSized g) (pos : 0 < g.stride) (L N : ℕ) where
  -- one node of an area adopted
  own_tidy : (count k p i : ℕ) (xs : List ℕ) → k < count → Keeps g count xs → Tidy g.stride g.fan (adopted p i (node_at g k xs))
  own_tidy count k p i xs lk h = adopted_tidy g.stride g.fan p i (node_at g k xs) (h.tidy k lk)

  adopt_area : (count k p i : ℕ) (xs : List ℕ) → k < count → Keeps g count xs → area_of g (put_node g k (adopted p i (node_at g k xs)) xs) ≡ add.adopt (area_of g xs) k p i
  adopt_area count k p i xs lk h =
      put_area_law g sized pos count k (adopted p i (node_at g k xs)) xs (omega (arith, h.few)) (own_tidy count k p i xs lk h) h
      ∙ area_ext (put_area (area_of g xs) k (adopted p i (node_at g k xs))) (add.adopt (area_of g xs) k p i) (upd_own (area_of g xs).slots k (slots_of (node_at g k xs)) refl) (λ j. refl) (λ j. refl)

  slots_kept : (count k p i : ℕ) (xs : List ℕ) → k < count → Keeps g count xs → (q : ℕ) → (node_at g q (put_node g k (adopted p i (node_at g k xs)) xs)).slots ≡ (node_at g q xs).slots
  slots_kept count k p i xs lk h q = go (ℕ_discrete q k)
    where
      f : Formed g.stride g.fan (adopted p i (node_at g k xs))
      f = tidy_formed g.stride g.fan (adopted p i (node_at g k xs)) (own_tidy count k p i xs lk h) pos

      ft : NodeFits g k xs
      ft = fits g k xs (omega (arith, h.few)) h.long

      go : Dec (q ≡ k) → (node_at g q (put_node g k (adopted p i (node_at g k xs)) xs)).slots ≡ (node_at g q xs).slots
      go (yes e) = subst (λ (z : ℕ). (node_at g z (put_node g k (adopted p i (node_at g k xs)) xs)).slots ≡ (node_at g z xs).slots) (sym e) (ap (λ (n : Node). n.slots) (node_same g k xs sized ft (adopted p i (node_at g k xs)) f))
      go (no ne) = ap (λ (n : Node). n.slots) (node_other g k xs sized ft (adopted p i (node_at g k xs)) f q ne)

  record One (h k p i : ℕ) (a : Areas) : Type 0 where
    trunk : (t : Top) (x : Slot) → x.child ≡ k → trunk_of g (adopt g (level_of h) k p i a) t ≡ adopt_at h (trunk_of g a t) p i (x ∷ [])
    both : Both g L N (adopt g (level_of h) k p i a)
    slots : (q : ℕ) → (node_at g q (adopt g (level_of h) k p i a).inners).slots ≡ (node_at g q a.inners).slots
    less : k < g.nodes

  one : (h k p i : ℕ) (a : Areas) → Both g L N a → k < count_of h L N → One h k p i a
  unfolding adopt
  one zero k p i a b lk = record {
    trunk = λ t x e. ap (λ (z : Area). record { leaf = z; inner = area_of g a.inners; root = t.root; next = t.inners; levels = t.levels })
        (adopt_area L k p i a.leaves lk b.leaf ∙ ap (λ (c : ℕ). add.adopt (area_of g a.leaves) c p i) (sym e));
    both = record { leaf = put_same g sized pos L k (adopted p i (node_at g k a.leaves)) a.leaves lk (own_tidy L k p i a.leaves lk b.leaf) b.leaf; inner = b.inner };
    slots = λ q. refl;
    less = omega (arith, b.leaf.few);
  }
  one (suc h) k p i a b lk = record {
    trunk = λ t x e. ap (λ (z : Area). record { leaf = area_of g a.leaves; inner = z; root = t.root; next = t.inners; levels = t.levels })
        (adopt_area N k p i a.inners lk b.inner ∙ ap (λ (c : ℕ). add.adopt (area_of g a.inners) c p i) (sym e));
    both = record { leaf = b.leaf; inner = put_same g sized pos N k (adopted p i (node_at g k a.inners)) a.inners lk (own_tidy N k p i a.inners lk b.inner) b.inner };
    slots = slots_kept N k p i a.inners lk b.inner;
    less = omega (arith, b.inner.few);
  }

  adopt_more : (h : ℕ) (s : Trunk) (p i : ℕ) (x : Slot) (S : List Slot) → adopt_at h s p i (x ∷ S) ≡ adopt_at h (adopt_at h s p i (x ∷ [])) p (suc i) S
  adopt_more zero s p i x S = refl
  adopt_more (suc h) s p i x S = refl

  adopt_none : (h : ℕ) (s : Trunk) (p i : ℕ) → adopt_at h s p i [] ≡ s
  adopt_none zero s p i = refl
  adopt_none (suc h) s p i = refl

  pub adopt_all_law : (h p : ℕ) (a : Areas) (F rows G : List (List ℕ)) → Both g L N a → (node_at g p a.inners).slots ≡ F ++ (rows ++ G) → All (λ x. child x < count_of h L N) rows → Adopted g L N h p (length F) a rows
  unfolding adopt_all All
  adopt_all_law h p a F [] G b e c = record { after = a; is = refl; trunk = λ t. sym (adopt_none h (trunk_of g a t) p (length F)); both = b }
  adopt_all_law h p a F (x ∷ rows) G b e c =
      more (one h (child x) p (length F) a b c.0)
      (λ o. adopt_all_law h p (adopt g (level_of h) (child x) p (length F) a) (F ++ x ∷ []) rows G o.both (o.slots p ∙ e ∙ sym (append_assoc F (x ∷ []) (rows ++ G))) c.1)
    where
      kid : child (get_or (node_at g p a.inners).slots (length F) []) ≡ child x
      kid = ap (λ (l : List (List ℕ)). child (get_or l (length F) [])) e ∙ ap child (get_or-append_seam F x (rows ++ G) [])

      len : length (F ++ x ∷ []) ≡ suc (length F)
      len = (let z = length-append F (x ∷ []) in omega arith)

      more : (o : One h (child x) p (length F) a) → (One h (child x) p (length F) a → Adopted g L N h p (length (F ++ x ∷ [])) (adopt g (level_of h) (child x) p (length F) a) rows) → Adopted g L N h p (length F) a (x ∷ rows)
      more o ih = next (subst (λ (i : ℕ). Adopted g L N h p i (adopt g (level_of h) (child x) p (length F) a) rows) len (ih o))
        where
          next : Adopted g L N h p (suc (length F)) (adopt g (level_of h) (child x) p (length F) a) rows → Adopted g L N h p (length F) a (x ∷ rows)
          next r = record {
            after = r.after;
            is = rw (kid, lt-ltb (child x) g.nodes o.less, add-one (length F)) r.is;
            trunk = λ t. r.trunk t ∙ ap (λ (s : Trunk). adopt_at h s p (suc (length F)) (map slot_of rows)) (o.trunk t (slot_of x) refl) ∙ sym (adopt_more h (trunk_of g a t) p (length F) (slot_of x) (map slot_of rows));
            both = r.both;
          }
