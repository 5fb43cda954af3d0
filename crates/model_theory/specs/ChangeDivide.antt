-- A full inner node divided, and a new root: the model's `divide` is `halve_at`, its `grow_root` the abstract one.
use Rattle.std.specs.Prelude.{◌≡◌, refl, ◌≢◌, take, drop}
use Rattle.std.proofs.Math.Path.{sym, ap, ap₂, subst, fun_ext}
use Rattle.std.proofs.Common.{◌∙◌, add-one, lt-ltb}
use mathlib.Core.List.{List, [], ◌∷◌, ◌++◌, map}
use Prim.Native.Nat.{ℕ, zero, suc, ◌-◌, ◌<◌, ◌≤◌}
use Rattle.std.proofs.Math.Decide.{ℕ_discrete}
use native.Mathlib.Omega.{arith}
use Rattle.std.proofs.Math.ListN.{length, length-drop}
use Rattle.std.proofs.lemmas.List.{length-map}
use Rattle.std.proofs.Math.Seq.{length-take-le}
use Rattle.model.specs.Lists.{All}
use Rattle.model.specs.Node as node
use Rattle.model.specs.Node.{Node, none, child, used, empty_slots, half, lower_half, upper_half, new_node, slot_for}
use Rattle.model.specs.State.{node_at, put_node}
use Rattle.model.specs.Grow as grow
use Rattle.model.specs.Grow.{Areas, areas, linked, Top, top, grown, adopt_all, divide}
use Rattle.model.specs.declared.shape.Shape.{Shape}
use Rattle.model_laws.specs.Lists.{all_take, all_drop}
use Rattle.model_laws.specs.Slots.{Wide}
use Rattle.model_laws.specs.Areas.{node_same}
use Rattle.model_theory.specs.WordFits.{NodeSized, fits}
use Rattle.model_tree.specs.Lists.{take_map, all_map}
use Rattle.model_tree.specs.Levels.{Slot, Area, total}
use Rattle.model_tree.specs.Update as add
use Rattle.model_tree.specs.Update.{upd, upd_same, upd_other, set_slots}
use Rattle.model_tree.specs.Insert as insert
use Rattle.model_tree.specs.Insert.{Trunk, with_inner, adopt_at}
use Rattle.model_tree.specs.Halve as halve
use Rattle.model_tree.specs.Halve.{halve_at}
use Rattle.model_theory.specs.WordTidy.{Tidy, made, tidy_made, tidy_formed, used_made, lower_made, upper_made}
use Rattle.model_theory.specs.LiftTree.{slot_of, slots_of, area_of}
use Rattle.model_theory.specs.WordPut.{Keeps, put_same, put_next, put_area_law, put_slots}
use Rattle.model_theory.specs.ChangeSlot.{drop_map, slot_for_law, slot_wide}
use Rattle.model_theory.specs.ChangeAdopt.{trunk_of, level_of, count_of, Both, Adopted, adopt_all_law}
use Rattle.model_theory.specs.ChangeLink.{adopt_set, slots_all}

-- two adoptions of different nodes, in either order
upd_swap : (f : ℕ → ℕ) (k x j y : ℕ) → k ≢ j → (i : ℕ) → upd (upd f k x) j y i ≡ upd (upd f j y) k x i
upd_swap f k x j y ne i = go (ℕ_discrete i j) (ℕ_discrete i k)
  where
    go : Dec (i ≡ j) → Dec (i ≡ k) → upd (upd f k x) j y i ≡ upd (upd f j y) k x i
    go (yes p) (yes q) = absurd (ne (sym q ∙ p))
    go (yes p) (no q) = ap (upd (upd f k x) j y) p ∙ upd_same (upd f k x) j y ∙ sym (upd_other (upd f j y) k x i q ∙ ap (upd f j y) p ∙ upd_same f j y)
    go (no p) (yes q) = upd_other (upd f k x) j y i p ∙ ap (upd f k x) q ∙ upd_same f k x ∙ sym (ap (upd (upd f j y) k x) q ∙ upd_same (upd f j y) k x)
    go (no p) (no q) = upd_other (upd f k x) j y i p ∙ upd_other f k x i q ∙ sym (upd_other (upd f j y) k x i q ∙ upd_other f j y i p)

adopt_swap : (a : Area) (c q w p i : ℕ) (S : List Slot) → All (λ x. x.child ≢ c) S → add.adopt_all (add.adopt a c q w) p i S ≡ add.adopt (add.adopt_all a p i S) c q w
unfolding All
adopt_swap a c q w p i [] h = refl
adopt_swap a c q w p i (x ∷ S) h =
    ap (λ (z : Area). add.adopt_all z p (suc i) S)
    (λ j. record { slots = a.slots; parent = fun_ext (upd_swap a.parent c q x.child p (λ e. h.0 (sym e))) j; place = fun_ext (upd_swap a.place c w x.child i (λ e. h.0 (sym e))) j })
    ∙ adopt_swap (add.adopt a x.child p i) c q w p (suc i) S h.1

-- node c of the inner area is none of the children that are adopted
abbrev Apart : ℕ → ℕ → List Slot → Type 0
Apart zero c S = Unit {0}
Apart (suc h) c S = All (λ x. x.child ≢ c) S

adopt_beside : (h : ℕ) (s : Trunk) (c q w p i : ℕ) (S : List Slot) → Apart h c S
    → adopt_at h (with_inner s (add.adopt s.inner c q w)) p i S ≡ with_inner (adopt_at h s p i S) (add.adopt (adopt_at h s p i S).inner c q w)
adopt_beside zero s c q w p i S h = refl
adopt_beside (suc n) s c q w p i S h = ap (λ (z : Area). with_inner s z) (adopt_swap s.inner c q w p i S h)

kids_more : (h L N : ℕ) (rows : List (List ℕ)) → All (λ x. child x < count_of h L N) rows → All (λ x. child x < count_of h L (suc N)) rows
kids_more zero L N rows k = k
kids_more (suc h) L N rows k = all_map (λ x. child x < N) (λ x. child x < suc N) (λ x lt. omega arith) rows k

apart_of : (N : ℕ) (rows : List (List ℕ)) → All (λ x. child x < N) rows → All (λ (x : Slot). x.child ≢ N) (map slot_of rows)
unfolding All
apart_of N [] k = tt
apart_of N (x ∷ rows) k = ((λ e. let z = k.0 in omega arith), apart_of N rows k.1)

kids_apart : (h L N : ℕ) (rows : List (List ℕ)) → All (λ x. child x < count_of h L N) rows → Apart h N (map slot_of rows)
kids_apart zero L N rows k = tt
kids_apart (suc h) L N rows k = apart_of N rows k

-- a trunk with slots of k, then node N's parent, place and slots written
abbrev written : Trunk → ℕ → ℕ → List Slot → Trunk
written z N P Us = with_inner (with_inner z (add.adopt z.inner N P 0)) (set_slots (add.adopt z.inner N P 0) N Us)

halve_ends : (h : ℕ) (g : Shape) (a : Areas) (N r l k : ℕ) (Ls Us : List Slot)
    → written (with_inner (adopt_at h (trunk_of g a (top (suc N) r l)) N 0 Us) (set_slots (adopt_at h (trunk_of g a (top (suc N) r l)) N 0 Us).inner k Ls)) N (node_at g k a.inners).parent Us
    ≡ halve_at h (trunk_of g a (top N r l)) k Ls Us
halve_ends zero g a N r l k Ls Us = refl
halve_ends (suc h) g a N r l k Ls Us = refl

pub record NodeDivided (g : Shape) (L N h k : ℕ) (a : Areas) : Type 0 where
  pub after : Areas
  pub is : divide g (level_of h) k N a ≡ linked 0 after
  pub trunk : (r l : ℕ) → trunk_of g after (top (suc N) r l) ≡ halve_at h (trunk_of g a (top N r l)) k (take (half g.fan) (slots_of (node_at g k a.inners))) (drop (half g.fan) (slots_of (node_at g k a.inners)))
  pub both : Both g L (suc N) after

module _ (g : Shape) (sized : NodeSized g) (pos : 0 < g.stride) (L N h k : ℕ) (a : Areas) (b : Both g L N a) (lk : k < N) (room : N < g.nodes) (full : length (slots_of (node_at g k a.inners)) ≡ g.fan)
    (kids : All (λ x. child x < count_of h L N) (drop (half g.fan) (used (node_at g k a.inners)))) where
  n : Node
  n = node_at g k a.inners

  td : Tidy g.stride g.fan n
  unfolding n
  td = b.inner.tidy k lk

  fu : length (used n) ≡ g.fan
  unfolding n
  fu = sym (length-map (used n) slot_of) ∙ full

  L₀ : List (List ℕ)
  L₀ = take (half g.fan) (used n)

  U₀ : List (List ℕ)
  U₀ = drop (half g.fan) (used n)

  low_is : lower_half g.stride g.fan n ≡ made g.stride g.fan n.parent n.at L₀
  unfolding L₀
  low_is = ap (lower_half g.stride g.fan) td.is ∙ lower_made g.stride g.fan n.parent n.at (used n) fu

  high_is : upper_half g.stride g.fan n ≡ made g.stride g.fan n.parent 0 U₀
  unfolding U₀
  high_is = ap (upper_half g.stride g.fan) td.is ∙ upper_made g.stride g.fan n.parent n.at (used n) fu

  low_tidy : Tidy g.stride g.fan (lower_half g.stride g.fan n)
  unfolding L₀
  low_tidy = subst (Tidy g.stride g.fan) (sym low_is) (tidy_made g.stride g.fan n.parent n.at L₀ (let z = length-take-le (half g.fan) (used n) (let y = fu in omega arith) in omega arith) (all_take (λ x. length x ≡ g.stride) (half g.fan) (used n) td.wide))

  high_tidy : Tidy g.stride g.fan (upper_half g.stride g.fan n)
  unfolding U₀
  high_tidy = subst (Tidy g.stride g.fan) (sym high_is) (tidy_made g.stride g.fan n.parent 0 U₀ (let z = length-drop (half g.fan) (used n) in let y = fu in omega arith) (all_drop (λ x. length x ≡ g.stride) (half g.fan) (used n) td.wide))

  high_used : used (upper_half g.stride g.fan n) ≡ U₀
  high_used = ap used high_is ∙ used_made g.stride g.fan n.parent 0 U₀

  -- with the halves written
  inner₁ : List ℕ
  inner₁ = put_node g k (lower_half g.stride g.fan n) a.inners

  inner₂ : List ℕ
  inner₂ = put_node g N (upper_half g.stride g.fan n) inner₁

  keeps₁ : Keeps g N inner₁
  unfolding inner₁
  keeps₁ = put_same g sized pos N k (lower_half g.stride g.fan n) a.inners lk low_tidy b.inner

  keeps₂ : Keeps g (suc N) inner₂
  unfolding inner₂
  keeps₂ = put_next g sized pos N (upper_half g.stride g.fan n) inner₁ room high_tidy keeps₁

  area₁ : area_of g inner₁ ≡ set_slots (area_of g a.inners) k (map slot_of L₀)
  unfolding inner₁ n
  area₁ = put_slots g sized pos N k (lower_half g.stride g.fan n) a.inners (omega arith) low_tidy b.inner (sym (ap (λ (m : Node). m.parent) low_is)) (sym (ap (λ (m : Node). m.at) low_is))
      ∙ ap (set_slots (area_of g a.inners) k) (ap slots_of low_is ∙ ap (map slot_of) (used_made g.stride g.fan n.parent n.at L₀))

  area₂ : area_of g inner₂ ≡ set_slots (add.adopt (set_slots (area_of g a.inners) k (map slot_of L₀)) N n.parent 0) N (map slot_of U₀)
  unfolding inner₂
  area₂ = put_area_law g sized pos N N (upper_half g.stride g.fan n) inner₁ room high_tidy keeps₁
      ∙ ap₂ put_area' area₁ (ap (λ (m : Node). (slots_of m, m.parent, m.at)) high_is ∙ ap (λ (S : List (List ℕ)). (map slot_of S, n.parent, 0)) (used_made g.stride g.fan n.parent 0 U₀))
    where
      put_area' : Area → (List Slot × ℕ × ℕ) → Area
      put_area' z q = record { slots = upd z.slots N q.0; parent = upd z.parent N q.1; place = upd z.place N q.2 }

  mid : Areas
  mid = areas a.leaves inner₂

  read_mid : (node_at g N mid.inners).slots ≡ [] ++ (U₀ ++ empty_slots g.stride (g.fan - length (used (upper_half g.stride g.fan n))))
  unfolding mid inner₂
  read_mid =
      ap (λ (m : Node). m.slots) (node_same g N inner₁ sized (fits g N inner₁ room keeps₁.long) (upper_half g.stride g.fan n) (tidy_formed g.stride g.fan (upper_half g.stride g.fan n) high_tidy pos))
      ∙ slots_all g.stride g.fan (upper_half g.stride g.fan n) high_tidy ∙ ap (λ (l : List (List ℕ)). l ++ empty_slots g.stride (g.fan - length (used (upper_half g.stride g.fan n)))) high_used

  adopted : Adopted g L (suc N) h N 0 mid U₀
  unfolding mid U₀ n
  adopted = adopt_all_law g sized pos L (suc N) h N mid [] U₀ (empty_slots g.stride (g.fan - length (used (upper_half g.stride g.fan n)))) (record { leaf = b.leaf; inner = keeps₂ }) read_mid (kids_more h L N (drop (half g.fan) (used n)) kids)

  pub divide_is : NodeDivided g L N h k a
  unfolding divide mid inner₂ inner₁ n U₀ L₀
  divide_is = record {
    after = adopted.after;
    is = ap (λ (j : ℕ). adopt_all g (level_of h) N j 0 mid) (let z = length-drop (half g.fan) (used n) in let y = fu in let u : g.fan - half g.fan ≡ length (drop (half g.fan) (used n)) = omega arith in u) ∙ adopted.is;
    trunk = λ r l.
        (let s₀ : Trunk = trunk_of g a (top N r l) in
        let s₁ : Trunk = trunk_of g a (top (suc N) r l) in
        let P : ℕ = n.parent in
        let Ls : List Slot = map slot_of L₀ in
        let Us : List Slot = map slot_of U₀ in
        let X : Area = set_slots (area_of g a.inners) k Ls in
        let Y : Area = add.adopt X N P 0 in
        adopted.trunk (top (suc N) r l) ∙ ap (λ (z : Area). adopt_at h (with_inner s₁ z) N 0 Us) area₂
        ∙ adopt_set h (with_inner s₁ Y) N Us N 0 Us
        ∙ ap (λ (z : Trunk). with_inner z (set_slots z.inner N Us)) (adopt_beside h (with_inner s₁ X) N P 0 N 0 Us (kids_apart h L N (drop (half g.fan) (used n)) kids))
        ∙ ap (λ (z : Trunk). written z N P Us) (adopt_set h s₁ k Ls N 0 Us)
        ∙ halve_ends h g a N r l k Ls Us
        ∙ ap₂ (λ (A B : List Slot). halve_at h s₀ k A B) (sym (take_map slot_of (half g.fan) (used n))) (sym (drop_map slot_of (half g.fan) (used n))));
    both = adopted.both;
  }

-- a new root above two inner nodes
pub record Rooted (g : Shape) (L h k m : ℕ) (t : Top) (a : Areas) : Type 0 where
  pub after : Areas
  pub is : grow.grow_root g t k m a ≡ grown 0 (top (suc t.inners) t.inners (suc t.levels)) after
  pub trunk : trunk_of g after (top (suc t.inners) t.inners (suc t.levels)) ≡ halve.grow_root (suc h) (trunk_of g a t) k (insert.slot_of m (total (area_of g a.inners) m))
  pub both : Both g L (suc t.inners) after

root_ends : (g : Shape) (a : Areas) (t : Top) (h : ℕ) (Us : List Slot)
    → written (adopt_at (suc h) (trunk_of g a (top (suc t.inners) t.inners (suc t.levels))) t.inners 0 Us) t.inners none Us ≡ halve.grow_at (suc h) (trunk_of g a t) Us
root_ends g a t h Us = refl

module _ (g : Shape) (sized : NodeSized g) (pos : 0 < g.stride) (L h k m : ℕ) (t : Top) (a : Areas) (b : Both g L t.inners a) (lk : k < t.inners) (lm : m < t.inners) (room : t.inners < g.nodes) (big : 2 ≤ g.fan)
    (sk : (v : ℕ) → node.total v (used (node_at g k a.inners)) < 4294967296) (sm : (v : ℕ) → node.total v (used (node_at g m a.inners)) < 4294967296) where
  x : List ℕ
  x = slot_for g.stride k (node_at g k a.inners)

  y : List ℕ
  y = slot_for g.stride m (node_at g m a.inners)

  rows : List (List ℕ)
  rows = x ∷ y ∷ []

  root_wide : Wide g.stride rows
  unfolding All rows x y
  root_wide = (slot_wide g.stride g.fan pos k (node_at g k a.inners) (b.inner.tidy k lk), (slot_wide g.stride g.fan pos m (node_at g m a.inners) (b.inner.tidy m lm), tt))

  root_tidy : Tidy g.stride g.fan (new_node g.stride g.fan none rows)
  unfolding rows
  root_tidy = tidy_made g.stride g.fan none 0 rows big root_wide

  mid_root : Areas
  mid_root = areas a.leaves (put_node g t.inners (new_node g.stride g.fan none rows) a.inners)

  keeps_root : Keeps g (suc t.inners) mid_root.inners
  unfolding mid_root
  keeps_root = put_next g sized pos t.inners (new_node g.stride g.fan none rows) a.inners room root_tidy b.inner

  area_root : area_of g mid_root.inners ≡ set_slots (add.adopt (area_of g a.inners) t.inners none 0) t.inners (map slot_of rows)
  unfolding mid_root rows
  area_root = put_area_law g sized pos t.inners t.inners (new_node g.stride g.fan none rows) a.inners room root_tidy b.inner

  read_root : (node_at g t.inners mid_root.inners).slots ≡ [] ++ (rows ++ empty_slots g.stride (g.fan - length rows))
  unfolding mid_root
  read_root = ap (λ (z : Node). z.slots) (node_same g t.inners a.inners sized (fits g t.inners a.inners room b.inner.long) (new_node g.stride g.fan none rows) (tidy_formed g.stride g.fan (new_node g.stride g.fan none rows) root_tidy pos))

  adopted_root : Adopted g L (suc t.inners) (suc h) t.inners 0 mid_root rows
  unfolding mid_root All rows x y slot_for
  adopted_root = adopt_all_law g sized pos L (suc t.inners) (suc h) t.inners mid_root [] rows (empty_slots g.stride (g.fan - length rows)) (record { leaf = b.leaf; inner = keeps_root }) read_root (omega arith, (omega arith, tt))

  slots_root : map slot_of rows ≡ insert.slot_of k (total (area_of g a.inners) k) ∷ insert.slot_of m (total (area_of g a.inners) m) ∷ []
  unfolding rows x y
  slots_root = ap₂ (λ (u w : Slot). u ∷ w ∷ []) (slot_for_law g.stride g.fan pos k (node_at g k a.inners) (b.inner.tidy k lk) sk) (slot_for_law g.stride g.fan pos m (node_at g m a.inners) (b.inner.tidy m lm) sm)

  apart_root : All (λ (z : Slot). z.child ≢ t.inners) (map slot_of rows)
  unfolding All rows x y slot_for
  apart_root = ((λ e. omega arith), ((λ e. omega arith), tt))

  pub root_is : Rooted g L h k m t a
  unfolding grow.grow_root mid_root rows x y
  root_is =
      let t' : Top = top (suc t.inners) t.inners (suc t.levels) in
      let Us : List Slot = map slot_of rows in
      record {
        after = adopted_root.after;
        is = rw (lt-ltb t.inners g.nodes room, adopted_root.is) (ap₂ (λ (i l : ℕ). grown 0 (top i t.inners l) adopted_root.after) (add-one t.inners) (add-one t.levels));
        trunk = adopted_root.trunk t' ∙ ap (λ (z : Area). adopt_at (suc h) (with_inner (trunk_of g a t') z) t.inners 0 Us) area_root
            ∙ adopt_set (suc h) (with_inner (trunk_of g a t') (add.adopt (area_of g a.inners) t.inners none 0)) t.inners Us t.inners 0 Us
            ∙ ap (λ (z : Trunk). with_inner z (set_slots z.inner t.inners Us)) (adopt_beside (suc h) (trunk_of g a t') t.inners none 0 t.inners 0 Us apart_root)
            ∙ root_ends g a t h Us
            ∙ ap (halve.grow_at (suc h) (trunk_of g a t)) slots_root;
        both = adopted_root.both;
      }
