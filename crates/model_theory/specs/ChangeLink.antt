-- A node gets its slot behind another in a parent with room: the model's `link` is `insert_at`.
use Rattle.std.specs.Prelude.{◌≡◌, false, ℕ, zero, suc, ◌-◌, ◌<◌, ◌≤◌, get_or, take}
use Rattle.std.proofs.Math.Path.{refl, ap, ap₂, subst}
use Rattle.std.proofs.Common.{sym, ◌∙◌, add-one, arith, length-append, length-take-le}
use mathlib.Core.List.{List, [], ◌∷◌, ◌++◌, map}
use Rattle.std.proofs.Math.ListN.{length, drop, length-drop, length-map}
use Rattle.model.specs.Lists.{All, sum_by}
use Rattle.model.specs.Node as node
use Rattle.model.specs.Node.{Node, child, lengths, length_in, used, minus, lengths_at, empty_slots, slot_for, child_split}
use Rattle.model.specs.State.{node_at, put_node}
use Rattle.model.specs.Grow.{Areas, areas, linked, Top, node_in, adopt_all, link}
use Rattle.model.specs.declared.shape.Shape.{Shape}
use Rattle.model_laws.specs.Areas.{node_same}
use Rattle.model_theory.specs.WordFits.{NodeSized, fits}
use Rattle.model_tree.specs.Lists.{map_append, take_map}
use Rattle.model_tree.specs.Levels.{no_slot, Slot, Area, total, len}
use Rattle.model_tree.specs.Update as add
use Rattle.model_tree.specs.Update.{set_slots}
use Rattle.model_tree.specs.Insert as insert
use Rattle.model_tree.specs.Insert.{Trunk, get, with_inner, adopt_at, insert_at, lessen}
use Rattle.model_theory.specs.WordTidy.{Tidy, tidy_formed, len_used}
use Rattle.model_theory.specs.LiftTree.{slot_of, slots_of, area_of, sum_slots}
use Rattle.model_theory.specs.LiftMarks.{get_d_slot}
use Rattle.model_theory.specs.WordPut.{put_same, put_slots}
use Rattle.model_theory.specs.ChangeSlot.{drop_map, slot_for_law, slot_wide, split_tidy, split_parent, split_at, split_used, rest_is}
use Rattle.model_theory.specs.ChangeAdopt.{trunk_of, level_of, count_of, Both, Adopted, adopt_all_law}

-- slots written before or after the adoptions
set_adopt : (a : Area) (q : ℕ) (ss : List Slot) (p i : ℕ) (S : List Slot) → add.adopt_all (set_slots a q ss) p i S ≡ set_slots (add.adopt_all a p i S) q ss
set_adopt a q ss p i [] = refl
set_adopt a q ss p i (x ∷ S) = set_adopt (add.adopt a x.child p i) q ss p (suc i) S

pub adopt_set : (h : ℕ) (s : Trunk) (q : ℕ) (ss : List Slot) (p i : ℕ) (S : List Slot)
    → adopt_at h (with_inner s (set_slots s.inner q ss)) p i S ≡ with_inner (adopt_at h s p i S) (set_slots (adopt_at h s p i S).inner q ss)
adopt_set zero s q ss p i S = refl
adopt_set (suc h) s q ss p i S = ap (λ (z : Area). with_inner s z) (set_adopt s.inner q ss p i S)

-- the slots in use of a tidy node, and the empty ones behind them
pub slots_all : (s fan : ℕ) (n : Node) → Tidy s fan n → n.slots ≡ used n ++ empty_slots s (fan - length (used n))
slots_all s fan n t = ap (λ (m : Node). m.slots) t.is

-- what `link` leaves
pub record Joined (g : Shape) (L N h p i new : ℕ) (a : Areas) : Type 0 where
  pub after : Areas
  pub is : link g (level_of h) p i new a ≡ linked 0 after
  pub trunk : (t : Top) → trunk_of g after t ≡ insert_at h (trunk_of g a t) p i (take i (slots_of (node_at g p a.inners))) (lessen (get_or (slots_of (node_at g p a.inners)) i no_slot) (total (get h (trunk_of g a t)) new))
      (insert.slot_of new (total (get h (trunk_of g a t)) new)) (drop (suc i) (slots_of (node_at g p a.inners)))
  pub both : Both g L N after

-- the node of a height, and that it is tidy
pub node_at_law : (g : Shape) (h k : ℕ) (a : Areas) (t : Top) → slots_of (node_in g (level_of h) k a) ≡ (get h (trunk_of g a t)).slots k
node_at_law g zero k a t = refl
node_at_law g (suc h) k a t = refl

pub tidy_in : (g : Shape) (L N h k : ℕ) (a : Areas) → Both g L N a → k < count_of h L N → Tidy g.stride g.fan (node_in g (level_of h) k a)
tidy_in g L N zero k a b lk = b.leaf.tidy k lk
tidy_in g L N (suc h) k a b lk = b.inner.tidy k lk

module _ (g : Shape) (sized : NodeSized g) (pos : 0 < g.stride) (L N h p i new : ℕ) (a : Areas) (b : Both g L N a) (lp : p < N) (li : i < length (slots_of (node_at g p a.inners))) (room : length (slots_of (node_at g p a.inners)) < g.fan)
    (ln : new < count_of h L N) (kids : All (λ x. child x < count_of h L N) (drop (suc i) (used (node_at g p a.inners))))
    (small : (v : ℕ) → node.total v (used (node_in g (level_of h) new a)) < 4294967296)
    (le : (v : ℕ) → node.total v (used (node_in g (level_of h) new a)) ≤ length_in v (get_or (used (node_at g p a.inners)) i [])) (ls : (v : ℕ) → length_in v (get_or (used (node_at g p a.inners)) i []) < 4294967296) where
  m : Node
  m = node_at g p a.inners

  x : List ℕ
  x = slot_for g.stride new (node_in g (level_of h) new a)

  sz : length (slots_of m) ≡ length (used m)
  unfolding m
  sz = length-map (used m) slot_of

  td : Tidy g.stride g.fan m
  unfolding m
  td = b.inner.tidy p lp

  tn : Tidy g.stride g.fan (node_in g (level_of h) new a)
  tn = tidy_in g L N h new a b ln

  lu : i < length (used m)
  unfolding m
  lu = omega (arith, sz)

  lr : length (used m) < g.fan
  unfolding m
  lr = omega (arith, sz)

  wx : length x ≡ g.stride
  unfolding x
  wx = slot_wide g.stride g.fan pos new (node_in g (level_of h) new a) tn

  n' : Node
  n' = child_split false i x m

  tidy' : Tidy g.stride g.fan n'
  unfolding n'
  tidy' = split_tidy g.stride g.fan m td i x lu lr wx pos

  rest : List ℕ
  rest = child (get_or (used m) i []) ∷ minus (lengths_at i m.slots) (lengths x)

  used' : used n' ≡ take i (used m) ++ rest ∷ x ∷ drop (suc i) (used m)
  unfolding n' rest
  used' = split_used g.stride g.fan m td i x lu lr wx pos

  -- the new slot, and what is left of the old one
  x_is : (t : Top) → slot_of x ≡ insert.slot_of new (total (get h (trunk_of g a t)) new)
  unfolding x
  x_is t = slot_for_law g.stride g.fan pos new (node_in g (level_of h) new a) tn small ∙ ap (λ (ss : List Slot). insert.slot_of new (λ v. sum_by (len v) ss)) (node_at_law g h new a t)

  x_lens : (v : ℕ) → length_in v x ≡ node.total v (used (node_in g (level_of h) new a))
  unfolding x
  x_lens v = ap (λ (y : Slot). y.lens v) (slot_for_law g.stride g.fan pos new (node_in g (level_of h) new a) tn small) ∙ sum_slots v (used (node_in g (level_of h) new a))

  rest_lens : (t : Top) → slot_of rest ≡ lessen (get_or (slots_of m) i no_slot) (total (get h (trunk_of g a t)) new)
  unfolding rest m
  rest_lens t =
      rest_is g.stride g.fan m td i x lu lr wx pos (λ v. rw (x_lens v) (le v)) ls
      ∙ ap₂ lessen (sym (get_d_slot (used m) i lu)) (ap (λ (y : Slot). y.lens) (x_is t))

  slots' : (t : Top) → slots_of n' ≡ take i (slots_of m) ++ lessen (get_or (slots_of m) i no_slot) (total (get h (trunk_of g a t)) new) ∷ insert.slot_of new (total (get h (trunk_of g a t)) new) ∷ drop (suc i) (slots_of m)
  slots' t =
      ap (map slot_of) used' ∙ map_append slot_of (take i (used m)) (rest ∷ x ∷ drop (suc i) (used m))
      ∙ ap₂ (λ (F G : List Slot). F ++ slot_of rest ∷ slot_of x ∷ G) (sym (take_map slot_of i (used m))) (sym (drop_map slot_of (suc i) (used m)))
      ∙ ap₂ (λ (y z : Slot). take i (slots_of m) ++ y ∷ z ∷ drop (suc i) (slots_of m)) (rest_lens t) (x_is t)

  -- with the slots written
  mid : Areas
  mid = areas a.leaves (put_node g p n' a.inners)

  both_mid : Both g L N mid
  unfolding mid
  both_mid = record { leaf = b.leaf; inner = put_same g sized pos N p n' a.inners lp tidy' b.inner }

  trunk_mid : (t : Top) → trunk_of g mid t ≡ with_inner (trunk_of g a t) (set_slots (area_of g a.inners) p (slots_of n'))
  unfolding mid n' m
  trunk_mid t = ap (λ (z : Area). with_inner (trunk_of g a t) z)
      (put_slots g sized pos N p n' a.inners (omega (arith, b.inner.few)) tidy' b.inner (sym (split_parent g.stride g.fan m td i x lu lr wx pos)) (sym (split_at g.stride g.fan m td i x lu lr wx pos)))

  read_mid : (node_at g p mid.inners).slots ≡ (take i (used m) ++ rest ∷ []) ++ ((x ∷ drop (suc i) (used m)) ++ empty_slots g.stride (g.fan - length (used n')))
  unfolding mid
  read_mid =
      ap (λ (n : Node). n.slots) (node_same g p a.inners sized (fits g p a.inners (omega (arith, b.inner.few)) b.inner.long) n' (tidy_formed g.stride g.fan n' tidy' pos))
      ∙ slots_all g.stride g.fan n' tidy' ∙ ap (λ (l : List (List ℕ)). l ++ empty_slots g.stride (g.fan - length (used n'))) used'
      ∙ shape (take i (used m)) rest (x ∷ drop (suc i) (used m)) (empty_slots g.stride (g.fan - length (used n')))
    where
      shape : (X : List (List ℕ)) (y : List ℕ) (Y Z : List (List ℕ)) → (X ++ y ∷ Y) ++ Z ≡ (X ++ y ∷ []) ++ (Y ++ Z)
      shape [] y Y Z = refl
      shape (w ∷ X) y Y Z = ap {B = List (List ℕ)} (λ l. w ∷ l) (shape X y Y Z)

  front_length : length (take i (used m) ++ rest ∷ []) ≡ suc i
  front_length = (let z = length-append (take i (used m)) (rest ∷ []) in let y = length-take-le i (used m) (let u = lu in omega arith) in omega arith)

  adopted : Adopted g L N h p (suc i) mid (x ∷ drop (suc i) (used m))
  unfolding All m x slot_for
  adopted = subst (λ (j : ℕ). Adopted g L N h p j mid (x ∷ drop (suc i) (used m))) front_length
      (adopt_all_law g sized pos L N h p mid (take i (used m) ++ rest ∷ []) (x ∷ drop (suc i) (used m)) (empty_slots g.stride (g.fan - length (used n'))) both_mid read_mid (ln, kids))

  pub link_is : Joined g L N h p i new a
  unfolding link mid n' x m
  link_is = record {
    after = adopted.after;
    is = (let e : m.len - i ≡ length (x ∷ drop (suc i) (used m)) = (let z = length-drop (suc i) (used m) in let y = len_used g.stride g.fan m td in let u = lu in omega arith) in
        ap₂ (λ (j k : ℕ). adopt_all g (level_of h) p j k mid) e (add-one i) ∙ adopted.is);
    trunk = λ t. adopted.trunk t ∙ ap (λ (s : Trunk). adopt_at h s p (suc i) (map slot_of (x ∷ drop (suc i) (used m)))) (trunk_mid t)
        ∙ adopt_set h (trunk_of g a t) p (slots_of n') p (suc i) (map slot_of (x ∷ drop (suc i) (used m)))
        ∙ ap₂ (λ (S T : List Slot). with_inner (adopt_at h (trunk_of g a t) p (suc i) S) (set_slots (adopt_at h (trunk_of g a t) p (suc i) S).inner p T))
        (ap₂ ◌∷◌ (x_is t) (sym (drop_map slot_of (suc i) (used m)))) (slots' t);
    both = adopted.both;
  }
