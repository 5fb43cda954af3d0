-- How many slots each inner node has in use while a child is added, on any words. A node that is not full gains one at most,
-- so that the halves of a node that was divided have room when all above is done. Assumes nothing.
use Rattle.std.specs.Prelude.{◌≡◌, refl, Bool, true, false, cond, ◌&&◌, length, get_or, eqb}
use Rattle.std.proofs.Common.{ap, ◌∙◌}
use Rattle.std.proofs.Math.Logic.{dite}
use mathlib.Core.List.{List, [], ◌∷◌}
use Prim.Native.Nat.{ℕ, zero, suc, ◌+◌, ◌-◌, ◌*◌, ◌<◌, ◌≤◌}
use native.Mathlib.Omega.{arith}
use Rattle.std.proofs.Math.Decide.{ℕ_discrete}
use Rattle.std.proofs.Math.Dec.{ltb, leb}
use borrow.Author.Tests.{ltb-true, ltb-false, leb-true}
use Rattle.model.specs.Lists.{All}
use Rattle.model.specs.Node.{Node, none, child, totals_from, slot_for, inserted, child_split, half, lower_half, upper_half, new_node, adopted}
use Rattle.model.specs.State.{node_at, put_node}
use Rattle.model.specs.Grow.{Areas, areas, Linked, Top, top, Grown, grown, Above, node_in, adopt, adopt_all, link, divide, grow_root, split_node, link_half, add_to, above_of}
use Rattle.model.specs.declared.shape.Shape.{Shape}
use Rattle.model_laws.specs.Nodes.{Formed}
use Rattle.model_laws.specs.Formed.{formed_adopted, formed_lower, formed_upper, formed_split, formed_new}
use Rattle.model_laws.specs.AreaRead.{node_end}
use Rattle.model_laws.specs.Areas.{formed_at, length_put_node, node_same, node_other}

-- what holds of both sides of a test
pub by_test : {A : Type 0} (P : A → Type 0) (b : Bool) (x y : A) → (b ≡ true → P x) → (b ≡ false → P y) → P (cond b x y)
by_test P true x y f h = f refl
by_test P false x y f h = h refl

pub both : (a b : Bool) → (a && b) ≡ true → (a ≡ true) × (b ≡ true)
both true b e = (refl, e)
both false b e =
    let z : ◌≡◌ {A = ℕ} 0 1 = cc in
    absurd (omega arith)

-- a slot that is summed up has the words of a slot
length_totals : (n v : ℕ) (slots : List (List ℕ)) → length (totals_from n v slots) ≡ n
unfolding totals_from
length_totals zero v slots = refl
length_totals (suc n) v slots = ap suc (length_totals n (suc v) slots)

pub length_slot : (s k : ℕ) (n : Node) → 0 < s → length (slot_for s k n) ≡ s
unfolding slot_for
length_slot s k n h = omega (arith, length_totals (s - 1) 0 n.slots)

-- both areas hold all nodes
pub record Roomy (g : Shape) (a : Areas) : Type 0 where
  pub words : g.size ≡ 3 + g.fan * g.stride
  pub columns : 0 < g.stride
  pub slots : 4 ≤ g.fan
  pub leaves : g.nodes * g.size ≤ length a.leaves
  pub inners : g.nodes * g.size ≤ length a.inners

-- the slots in use of inner node j
abbrev pub len_of : Shape → ℕ → Areas → ℕ
len_of g j a = (node_at g j a.inners).len

split_len : (before : Bool) (i : ℕ) (x : List ℕ) (n : Node) → (child_split before i x n).len ≡ n.len + 1
unfolding child_split inserted
split_len before i x n = refl

lower_len : (s fan : ℕ) (n : Node) → (lower_half s fan n).len ≡ half fan
unfolding lower_half
lower_len s fan n = refl

upper_len : (s fan : ℕ) (n : Node) → (upper_half s fan n).len ≡ fan - half fan
unfolding upper_half
upper_len s fan n = refl

module _ (g : Shape) where
  -- b has the lengths of a
  pub record SameLens (a b : Areas) : Type 0 where
    pub roomy : Roomy g b
    pub same : (j : ℕ) → len_of g j b ≡ len_of g j a

  alike_self : (a : Areas) → Roomy g a → SameLens a a
  alike_self a r = record { roomy = r; same = λ j. refl }

  alike_next : (a b c : Areas) → SameLens a b → SameLens b c → SameLens a c
  alike_next a b c p q = record { roomy = q.roomy; same = λ j. q.same j ∙ p.same j }

  -- a node of either area is written
  module _ (a : Areas) (k : ℕ) (n : Node) (r : Roomy g a) (h : k < g.nodes) (f : Formed g.stride g.fan n) where
    leaf_roomy : Roomy g (areas (put_node g k n a.leaves) a.inners)
    leaf_roomy =
        record {
          words = r.words;
          columns = r.columns;
          slots = r.slots;
          inners = r.inners;
          leaves = rw (length_put_node g k a.leaves r.words (node_end g k (length a.leaves) h r.leaves) n f) r.leaves;
        }

    room : k * g.size + g.size ≤ length a.inners
    room = node_end g k (length a.inners) h r.inners

    inner_roomy : Roomy g (areas a.leaves (put_node g k n a.inners))
    inner_roomy =
        record {
          words = r.words;
          columns = r.columns;
          slots = r.slots;
          leaves = r.leaves;
          inners = rw (length_put_node g k a.inners r.words room n f) r.inners;
        }

    inner_here : len_of g k (areas a.leaves (put_node g k n a.inners)) ≡ n.len
    inner_here = ap (λ (m : Node). m.len) (node_same g k a.inners r.words room n f)

    inner_there : (j : ℕ) → (j ≡ k → ⊥) → len_of g j (areas a.leaves (put_node g k n a.inners)) ≡ len_of g j a
    inner_there j d = ap (λ (m : Node). m.len) (node_other g k a.inners r.words room n f j d)

  module _ (level k p i : ℕ) (a : Areas) (r : Roomy g a) (h : k < g.nodes) where
    pub adopt_alike : SameLens a (adopt g level k p i a)
    unfolding adopt
    adopt_alike = go (eqb level 1)
      where
        fl : Formed g.stride g.fan (adopted p i (node_at g k a.leaves))
        fl = formed_adopted g.stride g.fan (node_at g k a.leaves) (formed_at g k a.leaves r.words (node_end g k (length a.leaves) h r.leaves)) p i

        fi : Formed g.stride g.fan (adopted p i (node_at g k a.inners))
        fi = formed_adopted g.stride g.fan (node_at g k a.inners) (formed_at g k a.inners r.words (node_end g k (length a.inners) h r.inners)) p i

        same : (j : ℕ) → len_of g j (areas a.leaves (put_node g k (adopted p i (node_at g k a.inners)) a.inners)) ≡ len_of g j a
        same j =
            dite (ℕ_discrete j k)
            (λ e. rw e (inner_here a k (adopted p i (node_at g k a.inners)) r h fi))
            (λ d. inner_there a k (adopted p i (node_at g k a.inners)) r h fi j d)

        go : (b : Bool) → SameLens a (cond b (areas (put_node g k (adopted p i (node_at g k (cond b a.leaves a.inners))) a.leaves) a.inners)
            (areas a.leaves (put_node g k (adopted p i (node_at g k (cond b a.leaves a.inners))) a.inners)))
        go true = record { roomy = leaf_roomy a k _ r h fl; same = λ j. refl }
        go false = record { roomy = inner_roomy a k _ r h fi; same = same }

  pub all_alike : (level p n i : ℕ) (a : Areas) → Roomy g a → SameLens a (adopt_all g level p n i a).areas
  unfolding adopt_all
  all_alike level p zero i a r = alike_self a r
  all_alike level p (suc n) i a r =
      by_test (λ (x : Linked). SameLens a x.areas) (ltb (child (get_or (node_at g p a.inners).slots i [])) g.nodes) _ _
      (λ e. let o = adopt_alike level (child (get_or (node_at g p a.inners).slots i [])) p i a r (ltb-true _ _ e) in
      alike_next a (adopt g level (child (get_or (node_at g p a.inners).slots i [])) p i a) _ o (all_alike level p n (i + 1) _ o.roomy))
      (λ _. alike_self a r)

  -- b is a with one slot more in inner node p
  pub record Longer (p : ℕ) (a b : Areas) : Type 0 where
    pub roomy : Roomy g b
    pub more : len_of g p b ≡ len_of g p a + 1
    pub same : (j : ℕ) → (j ≡ p → ⊥) → len_of g j b ≡ len_of g j a

  pub link_longer : (level p i new : ℕ) (a : Areas) → Roomy g a → p < g.nodes → i < len_of g p a → len_of g p a < g.fan → Longer p a (link g level p i new a).areas
  unfolding link
  link_longer level p i new a r hp hi hl = record { roomy = o.roomy; more = o.same p ∙ here; same = λ j d. o.same j ∙ there j d }
    where
      x : List ℕ
      x = slot_for g.stride new (node_in g level new a)

      m : Node
      m = child_split false i x (node_at g p a.inners)

      f : Formed g.stride g.fan m
      f = formed_split g.stride g.fan (node_at g p a.inners) (formed_at g p a.inners r.words (node_end g p (length a.inners) hp r.inners)) false i x (length_slot g.stride new (node_in g level new a) r.columns) r.columns hi hl

      b : Areas
      b = areas a.leaves (put_node g p m a.inners)

      o : SameLens b (adopt_all g level p (len_of g p a - i) (i + 1) b).areas
      o = all_alike level p (len_of g p a - i) (i + 1) b (inner_roomy a p m r hp f)

      here : len_of g p b ≡ len_of g p a + 1
      here = inner_here a p m r hp f ∙ split_len false i x (node_at g p a.inners)

      there : (j : ℕ) → (j ≡ p → ⊥) → len_of g j b ≡ len_of g j a
      there j d = inner_there a p m r hp f j d

  -- b is a with inner node k divided, its upper half in node m
  pub record HalvedLens (k m : ℕ) (a b : Areas) : Type 0 where
    pub roomy : Roomy g b
    pub low : len_of g k b ≡ half g.fan
    pub high : len_of g m b ≡ g.fan - half g.fan
    pub same : (j : ℕ) → (j ≡ k → ⊥) → (j ≡ m → ⊥) → len_of g j b ≡ len_of g j a

  pub divide_halved : (level k m : ℕ) (a : Areas) → Roomy g a → k < m → m < g.nodes → HalvedLens k m a (divide g level k m a).areas
  unfolding divide
  divide_halved level k m a r h hm =
      record {
        roomy = o.roomy;
        low = o.same k ∙ inner_there b m up rb hm fu k (omega arith) ∙ inner_here a k lo r hk fl ∙ lower_len g.stride g.fan (node_at g k a.inners);
        high = o.same m ∙ inner_here b m up rb hm fu ∙ upper_len g.stride g.fan (node_at g k a.inners);
        same = λ j d e. o.same j ∙ inner_there b m up rb hm fu j e ∙ inner_there a k lo r hk fl j d;
      }
    where
      hk : k < g.nodes
      hk = omega arith

      fn : Formed g.stride g.fan (node_at g k a.inners)
      fn = formed_at g k a.inners r.words (node_end g k (length a.inners) hk r.inners)

      lo : Node
      lo = lower_half g.stride g.fan (node_at g k a.inners)

      up : Node
      up = upper_half g.stride g.fan (node_at g k a.inners)

      fl : Formed g.stride g.fan lo
      fl = formed_lower g.stride g.fan (node_at g k a.inners) fn r.columns

      fu : Formed g.stride g.fan up
      fu = formed_upper g.stride g.fan (node_at g k a.inners) fn r.columns

      b : Areas
      b = areas a.leaves (put_node g k lo a.inners)

      rb : Roomy g b
      rb = inner_roomy a k lo r hk fl

      c : Areas
      c = areas a.leaves (put_node g m up b.inners)

      o : SameLens c (adopt_all g level m (g.fan - half g.fan) 0 c).areas
      o = all_alike level m (g.fan - half g.fan) 0 c (inner_roomy b m up rb hm fu)

  -- each of the first c inner nodes that is not full in a has one slot more in b at most
  pub record WithinLens (c : ℕ) (a b : Areas) : Type 0 where
    pub roomy : Roomy g b
    pub least : (j : ℕ) → j < c → len_of g j a < g.fan → len_of g j a ≤ len_of g j b
    pub most : (j : ℕ) → j < c → len_of g j a < g.fan → len_of g j b ≤ len_of g j a + 1

  within_self : (c : ℕ) (a : Areas) → Roomy g a → WithinLens c a a
  within_self c a r = record { roomy = r; least = λ j l h. omega arith; most = λ j l h. omega arith }

  -- as it is when another node has one slot more
  within_longer : (c p : ℕ) (a b : Areas) → p < c → len_of g p a < g.fan → Longer p a b → WithinLens c a b
  within_longer c p a b hp hl o = record { roomy = o.roomy; least = λ j l h. dite (ℕ_discrete j p) (λ e. rw e (omega (arith, o.more))) (λ d. omega (arith, o.same j d)); most = λ j l h. dite (ℕ_discrete j p) (λ e. rw e (omega (arith, o.more))) (λ d. omega (arith, o.same j d)) }

  pub root_within : (t : Top) (k m : ℕ) (a : Areas) → Roomy g a → WithinLens t.inners a (grow_root g t k m a).areas
  unfolding grow_root All
  root_within t k m a r =
      by_test (λ (x : Grown). WithinLens t.inners a x.areas) (ltb t.inners g.nodes) _ _ (λ e. grows (ltb-true _ _ e)) (λ _. within_self t.inners a r)
    where
      x : List ℕ
      x = slot_for g.stride k (node_at g k a.inners)

      y : List ℕ
      y = slot_for g.stride m (node_at g m a.inners)

      n : Node
      n = new_node g.stride g.fan none (x ∷ y ∷ [])

      f : Formed g.stride g.fan n
      f = formed_new g.stride g.fan none (x ∷ y ∷ []) r.columns (length_slot g.stride k (node_at g k a.inners) r.columns, (length_slot g.stride m (node_at g m a.inners) r.columns, tt)) (omega (arith, r.slots))

      b : Areas
      b = areas a.leaves (put_node g t.inners n a.inners)

      grows : t.inners < g.nodes → WithinLens t.inners a (adopt_all g 2 t.inners 2 0 b).areas
      grows h =
          let o = all_alike 2 t.inners 2 0 b (inner_roomy a t.inners n r h f) in
          record {
            roomy = o.roomy;
            least = λ j l q. omega (arith, o.same j, inner_there a t.inners n r h f j (omega arith));
            most = λ j l q. omega (arith, o.same j, inner_there a t.inners n r h f j (omega arith));
          }

  -- b is a with inner node k divided and its upper half in node m, each with one slot more at most, as any node before m that is not full
  pub record PartedLens (k m : ℕ) (a b : Areas) : Type 0 where
    pub roomy : Roomy g b
    pub low_least : half g.fan ≤ len_of g k b
    pub low_most : len_of g k b ≤ half g.fan + 1
    pub high_least : g.fan - half g.fan ≤ len_of g m b
    pub high_most : len_of g m b ≤ g.fan - half g.fan + 1
    pub least : (j : ℕ) → j < m → (j ≡ k → ⊥) → len_of g j a < g.fan → len_of g j a ≤ len_of g j b
    pub most : (j : ℕ) → j < m → (j ≡ k → ⊥) → len_of g j a < g.fan → len_of g j b ≤ len_of g j a + 1

  parted : (k m : ℕ) (a d b : Areas) → k < m → HalvedLens k m a d → WithinLens (m + 1) d b → PartedLens k m a b
  parted k m a d b h o w =
      record {
        roomy = w.roomy;
        low_least = omega (arith, low, w.least k (omega arith) (omega (arith, low, r.slots)));
        low_most = omega (arith, low, w.most k (omega arith) (omega (arith, low, r.slots)));
        high_least = omega (arith, high, w.least m (omega arith) (omega (arith, high, r.slots)));
        high_most = omega (arith, high, w.most m (omega arith) (omega (arith, high, r.slots)));
        least = λ j l e q. omega (arith, o.same j e (omega arith), w.least j (omega arith) (omega (arith, o.same j e (omega arith))));
        most = λ j l e q. omega (arith, o.same j e (omega arith), w.most j (omega arith) (omega (arith, o.same j e (omega arith))));
      }
    where
      r : Roomy g b
      r = w.roomy

      low : len_of g k d ≡ half g.fan
      low = o.low

      high : len_of g m d ≡ g.fan - half g.fan
      high = o.high

  -- what is done above a divided node lengthens no other by more than one
  abbrev Gentle : Above → Type 0
  Gentle above = (t : Top) (k m : ℕ) (a : Areas) → Roomy g a → t.inners ≤ g.nodes → WithinLens t.inners a (above t k m a).areas

  split_parted : (above : Above) → Gentle above → (t : Top) (level k : ℕ) (a : Areas) → Roomy g a → k < t.inners → t.inners < g.nodes
      → PartedLens k t.inners a (split_node g above t level k a).areas
  unfolding split_node
  split_parted above ok t level k a r h l =
      by_test (λ (x : Grown). PartedLens k t.inners a x.areas) (eqb (divide g level k t.inners a).number 0) _ _
      (λ _. parted k t.inners a d _ h o (ok (top (t.inners + 1) t.root t.levels) k t.inners d o.roomy (omega arith)))
      (λ _. parted k t.inners a d d h o (within_self (t.inners + 1) d o.roomy))
    where
      d : Areas
      d = (divide g level k t.inners a).areas

      o : HalvedLens k t.inners a d
      o = divide_halved level k t.inners a r h l

  -- one half then gets the new node
  half_within : (level k m i new : ℕ) (a : Areas) (x : Grown) → k < m → m < g.nodes → len_of g k a ≡ g.fan → i < g.fan → PartedLens k m a x.areas
      → WithinLens m a (link_half g level k m i new x).areas
  unfolding link_half
  half_within level k m i new a x h l full hi o =
      by_test (λ (z : Grown). WithinLens m a z.areas) (eqb x.number 0) _ _
      (λ _. by_test (λ (z : Linked). WithinLens m a z.areas) (ltb i (half g.fan)) _ _
      (λ e. after k _ (λ j q n. other j n) (link_longer level k i new x.areas o.roomy (omega arith) (omega (arith, ltb-true i (half g.fan) e, o.low_least)) (omega (arith, o.low_most, o.roomy.slots))))
      (λ e. after m _ (λ j q n z. omega arith) (link_longer level m (i - half g.fan) new x.areas o.roomy l (omega (arith, ltb-false i (half g.fan) e, o.high_least)) (omega (arith, o.high_most, o.roomy.slots)))))
      (λ _. record { roomy = o.roomy; least = λ j q n. o.least j q (other j n) n; most = λ j q n. o.most j q (other j n) n })
    where
      other : (j : ℕ) → len_of g j a < g.fan → j ≡ k → ⊥
      other j n e = let z : len_of g k a < g.fan = rw e at n in omega arith

      -- p is k or m, neither of which counts
      after : (p : ℕ) (b : Areas) → ((j : ℕ) → j < m → len_of g j a < g.fan → j ≡ p → ⊥) → Longer p x.areas b → WithinLens m a b
      after p b d q =
          record {
            roomy = q.roomy;
            least = λ j u n. omega (arith, q.same j (d j u n), o.least j u (other j n) n);
            most = λ j u n. omega (arith, q.same j (d j u n), o.most j u (other j n) n);
          }

  add_within : (above : Above) → Gentle above → (t : Top) (level p after new : ℕ) (a : Areas) → Roomy g a → t.inners ≤ g.nodes
      → WithinLens t.inners a (add_to g above t level p after new a).areas
  unfolding add_to
  add_within above ok t level p after new a r h =
      by_test P (ltb p t.inners && ltb after g.nodes && ltb new g.nodes && ltb i len && leb len g.fan) _ _
      (λ e. let e₁ = both _ _ e in
      let e₂ = both _ _ e₁.0 in
      let e₃ = both _ _ (both _ _ e₂.0).0 in
      tested (ltb-true _ _ e₃.0) (ltb-true _ _ e₂.1) (leb-true _ _ e₁.1))
      (λ _. within_self t.inners a r)
    where
      P : Grown → Type 0
      P x = WithinLens t.inners a x.areas

      i : ℕ
      i = (node_in g level after a).at

      len : ℕ
      len = len_of g p a

      tested : p < t.inners → i < len → len ≤ g.fan → P (cond (ltb len g.fan) (grown (link g level p i new a).number t (link g level p i new a).areas)
          (cond (ltb t.inners g.nodes) (link_half g level p t.inners i new (split_node g above t level p a)) (grown 9 t a)))
      tested hp hi hl =
          by_test P (ltb len g.fan) _ _
          (λ e. within_longer t.inners p a _ hp (ltb-true _ _ e) (link_longer level p i new a r (omega arith) hi (ltb-true _ _ e)))
          (λ e. by_test P (ltb t.inners g.nodes) _ _
          (λ l. half_within level p t.inners i new a (split_node g above t level p a) hp (ltb-true _ _ l) (omega (arith, ltb-false len g.fan e)) (omega arith)
          (split_parted above ok t level p a r hp (ltb-true _ _ l)))
          (λ _. within_self t.inners a r))

  above_gentle : (n : ℕ) → Gentle (above_of g n)
  unfolding above_of
  above_gentle zero t k m a r h = root_within t k m a r
  above_gentle (suc n) t k m a r h = add_within (above_of g n) (above_gentle n) t 2 (node_at g k a.inners).parent k m a r h

  -- a full inner node is divided, and all above is done: both halves have room for one more
  pub split_room : (n : ℕ) (t : Top) (level k : ℕ) (a : Areas) → Roomy g a → k < t.inners → t.inners < g.nodes
      → PartedLens k t.inners a (split_node g (above_of g n) t level k a).areas
  split_room n t level k a r h l = split_parted (above_of g n) (above_gentle n) t level k a r h l
