-- One step of each definition of `Grow`: what a function that goes through it has at a return. Assumes nothing.
use Rattle.std.specs.Prelude.{◌≡◌, refl, false, List, [], ◌∷◌, length, get_or, set, take, drop, ltb}
use Rattle.std.proofs.Common.{sym, ◌∙◌, add-zero}
use Rattle.std.proofs.Math.Path.{ap}
use Prim.Native.Nat.{ℕ, zero, suc, ◌+◌, ◌-◌, ◌*◌, ◌<◌, ◌≤◌}
use native.Mathlib.Omega.{arith}
use Rattle.std.proofs.Math.Nat.{sub-zero}
use borrow.Author.Tests.{lt-ltb, le-ltb, eq-eqb, ne_eqb}
use borrow.Rule.Slice.PartMut.{put_mid}
use Rattle.model.specs.Lists.{part}
use Rattle.model.specs.Node.{none, child, node_of, slot_for, child_split, half, lower_half, upper_half, new_node, adopted}
use Rattle.model.specs.State.{node_at, put_node}
use Rattle.model.specs.Grow.{Areas, areas, Linked, linked, Top, top, Grown, grown, Above, node_in, adopt, adopt_all, link, divide, grow_root, split_node, link_half, add_to, above_of}
use Rattle.model.specs.declared.shape.Shape.{Shape}
use Rattle.model_laws.specs.Words.{lent}
use Rattle.model_laws.specs.Lists.{row_end}
use Rattle.model_laws.specs.Nodes.{Formed}
use Rattle.model_laws.specs.Formed.{formed_lower, formed_upper}
use Rattle.model_laws.specs.Changes.{adopt_words}
use Rattle.model_laws.specs.Areas.{formed_at}
use Rattle.model_laws.specs.AreaRead.{node_end, node_length, column_word}
use Rattle.model_laws.specs.Put.{node_back, nodes_swap}
use Rattle.model_laws.specs.Lens.{by_test}

-- a node learns where it stands: its part is back as ys, and the other area is as it was
module _ (g : Shape) (level k p i : ℕ) (ls xs ys : List ℕ) (e : g.size ≡ 3 + g.fan * g.stride) (hk : k < g.nodes) where
  written : (zs : List ℕ) → g.nodes * g.size ≤ length zs → length ys ≡ length (take (k * g.size + g.size - k * g.size) (drop (k * g.size) zs))
      → ys ≡ set (set (take (k * g.size + g.size - k * g.size) (drop (k * g.size) zs)) 1 p) 2 i
      → put_mid (k * g.size) (k * g.size + g.size - k * g.size) zs ys ≡ put_node g k (adopted p i (node_at g k zs)) zs
  written zs h l q =
      node_back g k zs ys (node_end g k (length zs) hk h) l (adopted p i (node_at g k zs))
      (q ∙ ap (λ (w : List ℕ). set (set w 1 p) 2 i) (lent (k * g.size) g.size zs) ∙ adopt_words g.stride g.fan (part (k * g.size) g.size zs) (node_length g k zs hk h ∙ e) p i)

  pub adopt_leaf : level ≡ 1 → g.nodes * g.size ≤ length ls → length ys ≡ length (take (k * g.size + g.size - k * g.size) (drop (k * g.size) ls))
      → ys ≡ set (set (take (k * g.size + g.size - k * g.size) (drop (k * g.size) ls)) 1 p) 2 i
      → areas (put_mid (k * g.size) (k * g.size + g.size - k * g.size) ls ys) xs ≡ adopt g level k p i (areas ls xs)
  unfolding adopt
  adopt_leaf o h l q = rw (written ls h l q) (simp (eq-eqb _ _ o))

  pub adopt_inner : (level ≡ 1 → ⊥) → g.nodes * g.size ≤ length xs → length ys ≡ length (take (k * g.size + g.size - k * g.size) (drop (k * g.size) xs))
      → ys ≡ set (set (take (k * g.size + g.size - k * g.size) (drop (k * g.size) xs)) 1 p) 2 i
      → areas ls (put_mid (k * g.size) (k * g.size + g.size - k * g.size) xs ys) ≡ adopt g level k p i (areas ls xs)
  unfolding adopt
  adopt_inner o h l q = rw (written xs h l q) (simp (ne_eqb _ _ o))

-- the children from place i up to place to: none, one that leads outside, one and the others
module _ (g : Shape) (level p to i : ℕ) (a : Areas) where
  pub all_end : to ≤ i → adopt_all g level p (to - i) i a ≡ linked 0 a
  unfolding adopt_all
  all_end h =
      let e : to - i ≡ 0 = omega arith in
      rw e

  -- w is the word that holds the child in the slot at place i
  module _ (w : ℕ) (h : i < to) (hf : to ≤ g.fan) (hs : 0 < g.stride) (q : w ≡ get_or (part (p * g.size) g.size a.inners) (3 + i * g.stride) 0) where
    kid : w ≡ child (get_or (node_at g p a.inners).slots i [])
    kid = q ∙ ap (λ (j : ℕ). get_or (part (p * g.size) g.size a.inners) j 0) (sym (add-zero (3 + i * g.stride))) ∙ sym (column_word g p i 0 a.inners (omega arith) hs)

    pub all_bad : g.nodes ≤ w → adopt_all g level p (to - i) i a ≡ linked 9 a
    unfolding adopt_all
    all_bad b =
        let e : to - i ≡ suc (to - (i + 1)) = omega arith in
        rw e (simp (le-ltb _ _ (rw kid at b)))

    pub all_more : (b : Areas) → w < g.nodes → b ≡ adopt g level w p i a → adopt_all g level p (to - (i + 1)) (i + 1) b ≡ adopt_all g level p (to - i) i a
    unfolding adopt_all
    all_more b l r =
        let e : to - i ≡ suc (to - (i + 1)) = omega arith in
        rw (e, r, kid) (simp (lt-ltb _ _ (rw kid at l)))

-- a slot for node new: what the code reads, sums up, writes and hands on
pub link_as : (g : Shape) (level p i new : ℕ) (ls xs : List ℕ) (len : ℕ) (y x zs : List ℕ) (r : Linked)
    → len ≡ get_or (part (p * g.size) g.size xs) 0 0
    → y ≡ slot_for g.stride new (node_in g level new (areas ls xs))
    → x ≡ y
    → zs ≡ put_node g p (child_split false i x (node_at g p xs)) xs
    → r ≡ adopt_all g level p (len + 1 - (i + 1)) (i + 1) (areas ls zs)
    → r ≡ link g level p i new (areas ls xs)
unfolding link node_of
link_as g level p i new ls xs len y x zs r el ey ex ez er =
    let e : len + 1 - (i + 1) ≡ len - i = omega arith in
    er ∙ rw (e, ez, ex, ey, el)

-- both halves are written, in either order, and the upper one's children told
pub divide_as : (g : Shape) (level k m : ℕ) (ls xs zs : List ℕ) (r : Linked) → g.size ≡ 3 + g.fan * g.stride → 0 < g.stride → k < m → m * g.size + g.size ≤ length xs
    → zs ≡ put_node g k (lower_half g.stride g.fan (node_at g k xs)) (put_node g m (upper_half g.stride g.fan (node_at g k xs)) xs)
    → r ≡ adopt_all g level m (g.fan - half g.fan - 0) 0 (areas ls zs)
    → r ≡ divide g level k m (areas ls xs)
unfolding divide
divide_as g level k m ls xs zs r e hs hk hm ez er =
    let f : Formed g.stride g.fan (node_at g k xs) = formed_at g k xs e (omega (arith, row_end k m g.size hk)) in
    let s = nodes_swap g k m (lower_half g.stride g.fan (node_at g k xs)) (upper_half g.stride g.fan (node_at g k xs)) xs e
    (formed_lower g.stride g.fan (node_at g k xs) f hs) (formed_upper g.stride g.fan (node_at g k xs) f hs) hk hm in
    er ∙ rw (sub-zero, ez, s)

-- a new root: none where no node is left, else its slots, its children and its number
module _ (g : Shape) (t : Top) (k m : ℕ) (ls xs : List ℕ) where
  pub root_none : g.nodes ≤ t.inners → grown 9 t (areas ls xs) ≡ grow_root g t k m (areas ls xs)
  unfolding grow_root
  root_none h = rw (le-ltb _ _ h)

  pub root_as : (x y x' y' zs : List ℕ) (n : ℕ) (b : Areas) → t.inners < g.nodes
      → x ≡ slot_for g.stride k (node_at g k xs)
      → y ≡ slot_for g.stride m (node_at g m xs)
      → x' ≡ x
      → y' ≡ y
      → zs ≡ put_node g t.inners (new_node g.stride g.fan none (x' ∷ y' ∷ [])) xs
      → linked n b ≡ adopt_all g 2 t.inners 2 0 (areas ls zs)
      → grown n (top (t.inners + 1) t.inners (t.levels + 1)) b ≡ grow_root g t k m (areas ls xs)
  unfolding grow_root
  root_as x y x' y' zs n b h ex ey e f ez er =
      ap (λ (l : Linked). grown l.number (top (t.inners + 1) t.inners (t.levels + 1)) l.areas) er ∙ rw (lt-ltb _ _ h, ez, e, f, ex, ey)

-- the new node's slot in a half: not after a 9, in the lower half, in the upper
module _ (g : Shape) (level k m i new : ℕ) (r : Grown) where
  pub half_bad : (r.number ≡ 0 → ⊥) → r ≡ link_half g level k m i new r
  unfolding link_half
  half_bad h = rw (ne_eqb _ _ h)

  module _ (o : r.number ≡ 0) where
    pub half_low : i < half g.fan → grown (link g level k i new r.areas).number r.top (link g level k i new r.areas).areas ≡ link_half g level k m i new r
    unfolding link_half
    half_low h = rw (eq-eqb _ _ o, lt-ltb _ _ h)

    pub half_high : half g.fan ≤ i
        → grown (link g level m (i - half g.fan) new r.areas).number r.top (link g level m (i - half g.fan) new r.areas).areas ≡ link_half g level k m i new r
    unfolding link_half
    half_high h = rw (eq-eqb _ _ o, le-ltb _ _ h)

-- children are told with 0 or 9
pub all_number : (g : Shape) (level p n i : ℕ) (a : Areas) → ((adopt_all g level p n i a).number ≡ 0 → ⊥) → (adopt_all g level p n i a).number ≡ 9
unfolding adopt_all
all_number g level p zero i a h = absurd (h refl)
all_number g level p (suc n) i a h =
    by_test (λ (x : Linked). (x.number ≡ 0 → ⊥) → x.number ≡ 9) (ltb (child (get_or (node_at g p a.inners).slots i [])) g.nodes) _ _
    (λ _. all_number g level p n (i + 1) (adopt g level (child (get_or (node_at g p a.inners).slots i [])) p i a)) (λ _ _. refl) h

-- a divided node: a child that leads outside, or what comes above
module _ (g : Shape) (above : Above) (t : Top) (level k : ℕ) (a b : Areas) (n : ℕ) (e : linked n b ≡ divide g level k t.inners a) where
  nine : (n ≡ 0 → ⊥) → n ≡ 9
  unfolding divide
  nine h = let q = ap (λ (l : Linked). l.number) e in q ∙ all_number g level t.inners _ 0 _ (λ z. h (q ∙ z))

  pub split_bad : (n ≡ 0 → ⊥) → grown n (top (t.inners + 1) t.root t.levels) b ≡ split_node g above t level k a
  unfolding split_node
  split_bad h = rw (← e, ne_eqb _ _ h) (ap (λ (x : ℕ). grown x (top (t.inners + 1) t.root t.levels) b) (nine h))

  pub split_ok : n ≡ 0 → above (top (t.inners + 1) t.root t.levels) k t.inners b ≡ split_node g above t level k a
  unfolding split_node
  split_ok h = rw (← e, eq-eqb _ _ h)

module _ (g : Shape) (u : Top) (k m : ℕ) (a : Areas) where
  pub above_none : (n : ℕ) → n ≡ 0 → grow_root g u k m a ≡ above_of g n u k m a
  unfolding above_of
  above_none n e = rw e

  pub above_more : (n w : ℕ) → (n ≡ 0 → ⊥) → w ≡ get_or (part (k * g.size) g.size a.inners) 1 0 → add_to g (above_of g (n - 1)) u 2 w k m a ≡ above_of g n u k m a
  unfolding above_of node_of
  above_more zero w h e = absurd (h refl)
  above_more (suc n) w h e =
      let o : suc n - 1 ≡ n = omega arith in
      rw (o, e)
