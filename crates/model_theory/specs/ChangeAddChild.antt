-- A new child with every split above it: the model's `add_to` and `above_of` are the abstract `add_child`, and no link leads outside.
use Rattle.std.specs.Prelude.{◌≡◌, ◌≢◌, cond, ltb, get_or}
use Rattle.std.proofs.Math.Path.{refl, sym, ap, ap₂, subst}
use Rattle.std.proofs.Common.{◌∙◌, add-one, length-append}
use mathlib.Core.List.{List, [], ◌∷◌, ◌++◌, map}
use Prim.Native.Nat.{ℕ, zero, suc, ◌+◌, ◌-◌, ◌<◌, ◌≤◌}
use Rattle.std.proofs.Math.Decide.{ℕ_discrete, dec_lt}
use native.Mathlib.Omega.{arith}
use Rattle.std.proofs.Math.ListN.{length, drop}
use Rattle.std.proofs.lemmas.List.{length-map}
use Rattle.std.proofs.Math.Seq.{get_or-append_seam}
use borrow.Author.Tests.{eq-eqb, ne_eqb, lt-ltb, le-ltb, le-leb}
use Rattle.model.specs.Lists.{All, sum_by}
use Rattle.model.specs.Node as node
use Rattle.model.specs.Node.{Node, child, length_in, used, half}
use Rattle.model.specs.State.{node_at}
use Rattle.model.specs.Grow.{Areas, linked, Top, top, Grown, grown, Above, node_in, link, split_node, link_half, add_to, above_of}
use Rattle.model.specs.declared.shape.Shape.{Shape}
use Rattle.model_laws.specs.Lists.{all_drop}
use Rattle.model_theory.specs.WordFits.{NodeSized}
use Rattle.model_tree.specs.Lists.{cat, sum_by_append, all_map, all_right}
use Rattle.model_tree.specs.Levels.{no_slot, Slot, said, told, total, len, none, Parent, find_parent}
use Rattle.model_tree.specs.Rank.{level_sum}
use Rattle.model_tree.specs.Insert as insert
use Rattle.model_tree.specs.Insert.{Trunk, get, Into, insert_child, behind, at_next}
use Rattle.model_tree.specs.Halve as halve
use Rattle.model_tree.specs.AddChild as adding
use Rattle.model_tree.specs.AddChild.{add_child}
use Rattle.model_tree.specs.Full.{FullParent, full_step}
use Rattle.model_theory.specs.LiftTree.{slot_of, slots_of, area_of, sum_slots}
use Rattle.model_theory.specs.LiftMarks.{get_d_slot}
use Rattle.model_theory.specs.WordNeat.{size_is}
use Rattle.model_theory.specs.ChangeSlot.{drop_map}
use Rattle.model_theory.specs.ChangeAdopt.{trunk_of, level_of, count_of, Both}
use Rattle.model_theory.specs.ChangeLink.{Joined, link_is, node_at_law}
use Rattle.model_theory.specs.ChangeDivide.{NodeDivided, divide_is, Rooted, root_is}

abbrev pub top_of : Trunk → Top
top_of s = top s.next s.root s.levels

-- the slot of a node of the height h in its parent
abbrev pub slot_in : ℕ → Trunk → ℕ → Slot
slot_in h s k = insert.slot_of k (total (get h s) k)

-- the level C = A ++ a ∷ B of height h, in which node new comes behind a: what the abstract tree asks, and that all is inside the areas
pub record ReadyToAdd (g : Shape) (L h : ℕ) (ar : Areas) (tp : Top) (t t' : ℕ → ℕ → ℕ) (A : List ℕ) (a : ℕ) (B : List ℕ) (new : ℕ) (st : List (List ℕ)) : Type 0 where
  pub into : Into h (trunk_of g ar tp) t t' A a B (slot_in h (trunk_of g ar tp) new) st
  pub both : Both g L tp.inners ar
  pub new_in : new < count_of h L tp.inners
  pub kids : All (λ c. c < count_of h L tp.inners) (A ++ a ∷ B)
  pub small : (v : ℕ) → sum_by (λ c. t c v) (A ++ a ∷ B) < 4294967296

-- the model's result is the trunk s
pub record Lifts (g : Shape) (L : ℕ) (r : Grown) (s : Trunk) : Type 0 where
  pub after : Areas
  pub is : r ≡ grown 0 (top_of s) after
  pub trunk : trunk_of g after (top_of s) ≡ s
  pub both : Both g L s.next after

-- a property of mapped slots, back to their words
pub unmap : (Q : ℕ → Type 0) (rows : List (List ℕ)) → All (λ (x : Slot). Q x.child) (map slot_of rows) → All (λ x. Q (child x)) rows
unfolding All
unmap Q [] h = tt
unmap Q (x ∷ rows) h = (h.0, unmap Q rows h.1)

module _ (g : Shape) (sized : NodeSized g) (pos : 0 < g.stride) (L : ℕ) where
  -- the bounds of the sums
  module _ (h : ℕ) (ar : Areas) (tp : Top) (t t' : ℕ → ℕ → ℕ) (A : List ℕ) (a : ℕ) (B : List ℕ) (new : ℕ) (st : List (List ℕ)) (r : ReadyToAdd g L h ar tp t t' A a B new st) where
    own_small : (v : ℕ) → t a v < 4294967296
    unfolding sum_by
    own_small v = (let z : sum_by (λ c. t c v) (A ++ a ∷ B) ≡ sum_by (λ c. t c v) A + (t a v + sum_by (λ c. t c v) B) = sum_by_append (λ c. t c v) A (a ∷ B) in omega (arith, r.small v))

    new_total : (v : ℕ) → node.total v (used (node_in g (level_of h) new ar)) ≡ t' new v
    new_total v = sym (sum_slots v (used (node_in g (level_of h) new ar))) ∙ ap (sum_by (len v)) (node_at_law g h new ar tp) ∙ ap (λ (f : ℕ → ℕ). f v) r.into.snl

  module _ (h : ℕ) (ar : Areas) (tp : Top) (t t' : ℕ → ℕ → ℕ) (A : List ℕ) (a : ℕ) (B : List ℕ) (new : ℕ) (P : List ℕ) (st : List (List ℕ)) (r : ReadyToAdd g L h ar tp t t' A a B new (P ∷ st)) where
    par : Parent t (get h (trunk_of g ar tp)) (area_of g ar.inners) A a B P
    par = find_parent t (get h (trunk_of g ar tp)) (area_of g ar.inners) A a B P r.into.links.0

    parent_in : (get h (trunk_of g ar tp)).parent a < tp.inners
    unfolding All
    parent_in = (all_right (λ m. m < tp.inners) par.P₁ ((get h (trunk_of g ar tp)).parent a ∷ par.P₂) (subst (All (λ m. m < tp.inners)) par.row r.into.below.0)).0

    place_in : (get h (trunk_of g ar tp)).place a < length (slots_of (node_at g ((get h (trunk_of g ar tp)).parent a) ar.inners))
    place_in = (let z : length (slots_of (node_at g ((get h (trunk_of g ar tp)).parent a) ar.inners)) ≡ length par.S₁ + suc (length par.S₂) = ap length par.slots ∙ length-append par.S₁ (par.s ∷ par.S₂) in omega (arith, par.place))

    slot_lens : (v : ℕ) → length_in v (get_or (used (node_at g ((get h (trunk_of g ar tp)).parent a) ar.inners)) ((get h (trunk_of g ar tp)).place a) []) ≡ t a v
    slot_lens v =
        let u : List (List ℕ) = used (node_at g ((get h (trunk_of g ar tp)).parent a) ar.inners) in
        let j : ℕ = (get h (trunk_of g ar tp)).place a in
        let z : length (map slot_of u) ≡ length u = length-map u slot_of in
        let e : get_or (map slot_of u) j no_slot ≡ par.s = ap₂ (λ (k : ℕ) (l : List Slot). get_or l k no_slot) par.place par.slots ∙ get_or-append_seam par.S₁ par.s par.S₂ no_slot in
        ap (λ (y : Slot). y.lens v) (sym (get_d_slot u j (let y = place_in in omega arith)) ∙ e) ∙ ap (λ (f : ℕ → ℕ). f v) (sym par.weight)

    kids_behind : All (λ x. child x < count_of h L tp.inners) (drop (suc ((get h (trunk_of g ar tp)).place a)) (used (node_at g ((get h (trunk_of g ar tp)).parent a) ar.inners)))
    unfolding All
    kids_behind =
        let j : ℕ = (get h (trunk_of g ar tp)).place a in
        let u : List (List ℕ) = used (node_at g ((get h (trunk_of g ar tp)).parent a) ar.inners) in
        let e : drop (suc j) (map slot_of u) ≡ par.S₂ = ap₂ (λ (k : ℕ) (l : List Slot). drop (suc k) l) par.place par.slots ∙ past par.S₁ par.s par.S₂ in
        unmap (λ c. c < count_of h L tp.inners) (drop (suc j) u) (subst (All (λ (x : Slot). x.child < count_of h L tp.inners)) (sym e ∙ drop_map slot_of (suc j) u)
        (behind t (get h (trunk_of g ar tp)) (area_of g ar.inners) A a B P par (λ c. c < count_of h L tp.inners) (all_right (λ c. c < count_of h L tp.inners) A (a ∷ B) r.kids).1))
      where
        past : (X : List Slot) (y : Slot) (Y : List Slot) → drop (suc (length X)) (X ++ y ∷ Y) ≡ Y
        past [] y Y = refl
        past (x ∷ X) y Y = past X y Y

    -- below a parent with room
    pub join : length (slots_of (node_at g ((get h (trunk_of g ar tp)).parent a) ar.inners)) < g.fan
        → Joined g L tp.inners h ((get h (trunk_of g ar tp)).parent a) ((get h (trunk_of g ar tp)).place a) new ar
    join room = link_is g sized pos L tp.inners h ((get h (trunk_of g ar tp)).parent a) ((get h (trunk_of g ar tp)).place a) new ar r.both parent_in place_in room r.new_in kids_behind
        (λ v. rw (new_total h ar tp t t' A a B new (P ∷ st) r v) (let z = r.into.sum v in let y = own_small h ar tp t t' A a B new (P ∷ st) r v in omega arith))
        (λ v. rw (new_total h ar tp t t' A a B new (P ∷ st) r v, slot_lens v) (let z = r.into.sum v in omega arith))
        (λ v. rw (slot_lens v) (own_small h ar tp t t' A a B new (P ∷ st) r v))

  -- the tests that the model makes all pass
  node_place : (h a : ℕ) (ar : Areas) (tp : Top) → (node_in g (level_of h) a ar).at ≡ (get h (trunk_of g ar tp)).place a
  node_place zero a ar tp = refl
  node_place (suc h) a ar tp = refl

  count_few : (h N : ℕ) (ar : Areas) → Both g L N ar → count_of h L N ≤ g.nodes
  count_few zero N ar b = b.leaf.few
  count_few (suc h) N ar b = b.inner.few

  count_more : (h N M : ℕ) → N ≤ M → count_of h L N ≤ count_of h L M
  count_more zero N M le = omega arith
  count_more (suc h) N M le = le

  lifts_of : (r : Grown) (tp : Top) (after : Areas) (s : Trunk) → r ≡ grown 0 tp after → trunk_of g after tp ≡ s → Both g L tp.inners after → Lifts g L r s
  lifts_of r tp after s e q b =
      let z : tp ≡ top_of s = ap top_of q in
      record { after = after; is = e ∙ ap (λ (x : Top). grown 0 x after) z; trunk = ap (trunk_of g after) (sym z) ∙ q; both = subst (λ (x : Top). Both g L x.inners after) z b }

  abbrev full_of : ℕ → ℕ → Trunk → ℕ → Slot → Trunk
  full_of d h s a sn = add_child g.fan (half g.fan) d h s a sn

  -- the work one level up is lifted
  abbrev Lifted : ℕ → Above → Type 0
  Lifted d above = (h : ℕ) (ar : Areas) (tp : Top) (t t' : ℕ → ℕ → ℕ) (A : List ℕ) (a : ℕ) (B : List ℕ) (new : ℕ) (st : List (List ℕ)) → length st ≡ d → ReadyToAdd g L (suc h) ar tp t t' A a B new st
      → t' a ≡ total (area_of g ar.inners) a → tp.inners + length st < none → (full_of d (suc h) (trunk_of g ar tp) a (slot_in (suc h) (trunk_of g ar tp) new)).next ≤ g.nodes
      → Lifts g L (above tp a new ar) (full_of d (suc h) (trunk_of g ar tp) a (slot_in (suc h) (trunk_of g ar tp) new))

  module _ (fan_low : 4 ≤ g.fan) (d : ℕ) (above : Above) (up : Lifted d above) (h : ℕ) (ar : Areas) (tp : Top) (t t' : ℕ → ℕ → ℕ) (A : List ℕ) (a : ℕ) (B : List ℕ) (new : ℕ) (P : List ℕ) (st : List (List ℕ))
      (deep : length st ≡ d) (r : ReadyToAdd g L h ar tp t t' A a B new (P ∷ st)) (few : tp.inners + length (P ∷ st) < none) where
    p : ℕ
    p = (get h (trunk_of g ar tp)).parent a

    i : ℕ
    i = (get h (trunk_of g ar tp)).place a

    m : Node
    m = node_at g ((get h (trunk_of g ar tp)).parent a) ar.inners

    lp : (get h (trunk_of g ar tp)).parent a < tp.inners
    lp = parent_in h ar tp t t' A a B new P st r

    sz : length (slots_of (node_at g ((get h (trunk_of g ar tp)).parent a) ar.inners)) ≡ (node_at g ((get h (trunk_of g ar tp)).parent a) ar.inners).len
    sz = size_is g.stride g.fan (node_at g ((get h (trunk_of g ar tp)).parent a) ar.inners) (r.both.inner.tidy ((get h (trunk_of g ar tp)).parent a) lp)

    most : length (slots_of (node_at g ((get h (trunk_of g ar tp)).parent a) ar.inners)) ≤ g.fan
    most = (let z : length (slots_of (node_at g ((get h (trunk_of g ar tp)).parent a) ar.inners)) ≡ length (used (node_at g ((get h (trunk_of g ar tp)).parent a) ar.inners)) = length-map (used (node_at g ((get h (trunk_of g ar tp)).parent a) ar.inners)) slot_of in
        omega (arith, (r.both.inner.tidy ((get h (trunk_of g ar tp)).parent a) lp).most))

    a_in : a < g.nodes
    unfolding All
    a_in = (let z = (all_right (λ c. c < count_of h L tp.inners) A (a ∷ B) r.kids).0 in let y = count_few h tp.inners ar r.both in omega arith)

    new_in' : new < g.nodes
    new_in' = (let z = r.new_in in let y = count_few h tp.inners ar r.both in omega arith)

    -- the tests that come first
    opened : add_to g above tp (level_of h) ((get h (trunk_of g ar tp)).parent a) a new ar ≡
        cond (ltb m.len g.fan) (let l = link g (level_of h) p i new ar in grown l.number tp l.areas)
        (cond (ltb tp.inners g.nodes) (link_half g (level_of h) p tp.inners i new (split_node g above tp (level_of h) p ar)) (grown 9 tp ar))
    unfolding add_to m p i
    opened = rw (
      node_place h a ar tp,
      lt-ltb ((get h (trunk_of g ar tp)).parent a) tp.inners lp,
      lt-ltb a g.nodes a_in,
      lt-ltb new g.nodes new_in',
      lt-ltb ((get h (trunk_of g ar tp)).place a) m.len (let z = place_in h ar tp t t' A a B new P st r in omega (arith, sz)),
      le-leb m.len g.fan (omega (arith, sz, most)),
    )

    -- room in the parent
    easy : length (slots_of (node_at g ((get h (trunk_of g ar tp)).parent a) ar.inners)) ≢ g.fan → Lifts g L (add_to g above tp (level_of h) ((get h (trunk_of g ar tp)).parent a) a new ar) (full_of (suc d) h (trunk_of g ar tp) a (slot_in h (trunk_of g ar tp) new))
    unfolding m p i
    easy ne =
        let j = join h ar tp t t' A a B new P st r (let z = most in omega arith) in
        rw (ne_eqb (length (slots_of (node_at g ((get h (trunk_of g ar tp)).parent a) ar.inners))) g.fan ne, add_child)
        (lifts_of (add_to g above tp (level_of h) ((get h (trunk_of g ar tp)).parent a) a new ar) tp j.after (insert_child h (trunk_of g ar tp) a (slot_in h (trunk_of g ar tp) new))
        (opened ∙ rw (lt-ltb (node_at g ((get h (trunk_of g ar tp)).parent a) ar.inners).len g.fan (let z = most in omega (arith, sz)), j.is)) (j.trunk tp) j.both)

    -- the parent is full
    module _ (ef : length (slots_of (node_at g ((get h (trunk_of g ar tp)).parent a) ar.inners)) ≡ g.fan) where
      s₁ : Trunk
      s₁ = adding.halve (half g.fan) h (trunk_of g ar tp) ((get h (trunk_of g ar tp)).parent a)

      s₂ : Trunk
      s₂ = full_of (length st) (suc h) (adding.halve (half g.fan) h (trunk_of g ar tp) ((get h (trunk_of g ar tp)).parent a)) ((get h (trunk_of g ar tp)).parent a)
          (insert.slot_of tp.inners (total (adding.halve (half g.fan) h (trunk_of g ar tp) ((get h (trunk_of g ar tp)).parent a)).inner tp.inners))

      F : FullParent g.fan (half g.fan) h (trunk_of g ar tp) s₁ s₂ t t' A a B (slot_in h (trunk_of g ar tp) new) ((get h (trunk_of g ar tp)).parent a) P st
      unfolding s₁ s₂
      F = full_step g.fan (half g.fan) h (trunk_of g ar tp) t t' A a B (slot_in h (trunk_of g ar tp) new) P st (omega arith) (omega arith) r.into few ef

      module _ (fits : s₂.next ≤ g.nodes) where
        room : tp.inners < g.nodes
        room = (let z = F.grew in omega arith)

        kids_all : All (λ x. child x < count_of h L tp.inners) (drop (half g.fan) (used (node_at g ((get h (trunk_of g ar tp)).parent a) ar.inners)))
        kids_all =
            let Q : ℕ → Type 0 = λ c. c < count_of h L tp.inners in
            let u : List (List ℕ) = used (node_at g ((get h (trunk_of g ar tp)).parent a) ar.inners) in
            all_drop (λ x. Q (child x)) (half g.fan) u
            (unmap Q u (halve.kids t (get h (trunk_of g ar tp)) (area_of g ar.inners) (A ++ a ∷ B) F.P₁ ((get h (trunk_of g ar tp)).parent a) F.P₂ Q (subst (λ (R : List ℕ). map (said t (get h (trunk_of g ar tp))) (A ++ a ∷ B) ≡ cat (told (area_of g ar.inners)) R) F.row r.into.links.0) r.kids))

        D : NodeDivided g L tp.inners h ((get h (trunk_of g ar tp)).parent a) ar
        D = divide_is g sized pos L tp.inners h ((get h (trunk_of g ar tp)).parent a) ar r.both lp room ef kids_all

        u : Top
        u = top (suc tp.inners) tp.root tp.levels

        halved : trunk_of g D.after u ≡ s₁
        unfolding u s₁
        halved = D.trunk tp.root tp.levels

        -- one level up
        ready₁ : ReadyToAdd g L (suc h) D.after u (total (area_of g ar.inners)) (total s₁.inner) F.P₁ ((get h (trunk_of g ar tp)).parent a) F.P₂ tp.inners st
        unfolding u All
        ready₁ = record {
          into = subst (λ (z : Trunk). Into (suc h) z (total (area_of g ar.inners)) (total s₁.inner) F.P₁ ((get h (trunk_of g ar tp)).parent a) F.P₂ (insert.slot_of tp.inners (total z.inner tp.inners)) st) (sym halved) F.into₁;
          both = D.both;
          new_in = omega arith;
          kids = all_map (λ c. c < tp.inners) (λ c. c < suc tp.inners) (λ c lt. omega arith) (F.P₁ ++ (get h (trunk_of g ar tp)).parent a ∷ F.P₂) (subst (All (λ c. c < tp.inners)) F.row r.into.below.0);
          small = λ v. subst (λ (Q : List ℕ). sum_by (λ c. total (area_of g ar.inners) c v) Q < 4294967296) F.row (rw (← (level_sum v t (get h (trunk_of g ar tp)) (area_of g ar.inners) (A ++ a ∷ B) P r.into.links.0)) (r.small v));
        }

        same₂ : full_of d (suc h) (trunk_of g D.after u) ((get h (trunk_of g ar tp)).parent a) (slot_in (suc h) (trunk_of g D.after u) tp.inners) ≡ s₂
        unfolding s₂ s₁
        same₂ = ap (λ (z : Trunk). full_of d (suc h) z ((get h (trunk_of g ar tp)).parent a) (insert.slot_of tp.inners (total z.inner tp.inners))) halved
            ∙ ap (λ (n : ℕ). full_of n (suc h) s₁ ((get h (trunk_of g ar tp)).parent a) (insert.slot_of tp.inners (total s₁.inner tp.inners))) (sym deep)

        above₂ : Lifts g L (above u ((get h (trunk_of g ar tp)).parent a) tp.inners D.after) s₂
        unfolding u
        above₂ = subst (Lifts g L (above u ((get h (trunk_of g ar tp)).parent a) tp.inners D.after)) same₂
            (up h D.after u (total (area_of g ar.inners)) (total s₁.inner) F.P₁ ((get h (trunk_of g ar tp)).parent a) F.P₂ tp.inners st deep ready₁
            (ap (λ (z : Trunk). total z.inner ((get h (trunk_of g ar tp)).parent a)) (sym halved)) (omega arith) (rw same₂ fits))

        split_is : split_node g above tp (level_of h) ((get h (trunk_of g ar tp)).parent a) ar ≡ grown 0 (top_of s₂) above₂.after
        unfolding split_node u
        split_is = rw D.is (ap (λ (n : ℕ). above (top n tp.root tp.levels) ((get h (trunk_of g ar tp)).parent a) tp.inners D.after) (add-one tp.inners) ∙ above₂.is)

        -- back below: the half that a stands in has room
        more : tp.inners ≤ s₂.next
        more = (let z = F.grew in omega arith)

        ready₂ : ReadyToAdd g L h above₂.after (top_of s₂) t t' A a B new ((F.P₁ ++ (get h (trunk_of g ar tp)).parent a ∷ tp.inners ∷ F.P₂) ∷ F.st')
        ready₂ = record {
          into = subst (λ (z : Trunk). Into h z t t' A a B (slot_in h z new) ((F.P₁ ++ (get h (trunk_of g ar tp)).parent a ∷ tp.inners ∷ F.P₂) ∷ F.st')) (sym above₂.trunk)
              (subst (λ (z : ℕ → ℕ). Into h s₂ t t' A a B (insert.slot_of new z) ((F.P₁ ++ (get h (trunk_of g ar tp)).parent a ∷ tp.inners ∷ F.P₂) ∷ F.st')) (sym F.new) F.into₂);
          both = above₂.both;
          new_in = (let z = r.new_in in let y = count_more h tp.inners s₂.next more in omega arith);
          kids = all_map (λ c. c < count_of h L tp.inners) (λ c. c < count_of h L s₂.next) (λ c lt. let y = count_more h tp.inners s₂.next more in omega arith) (A ++ a ∷ B) r.kids;
          small = r.small;
        }

        joined : Joined g L s₂.next h ((get h (trunk_of g above₂.after (top_of s₂))).parent a) ((get h (trunk_of g above₂.after (top_of s₂))).place a) new above₂.after
        joined = join h above₂.after (top_of s₂) t t' A a B new (F.P₁ ++ (get h (trunk_of g ar tp)).parent a ∷ tp.inners ∷ F.P₂) F.st' ready₂
            (subst (λ (z : Trunk). length (z.inner.slots ((get h z).parent a)) < g.fan) (sym above₂.trunk) F.room)

        -- the link that the model makes
        chosen : cond (ltb ((get h (trunk_of g ar tp)).place a) (half g.fan)) (link g (level_of h) ((get h (trunk_of g ar tp)).parent a) ((get h (trunk_of g ar tp)).place a) new above₂.after)
            (link g (level_of h) tp.inners ((get h (trunk_of g ar tp)).place a - half g.fan) new above₂.after) ≡ linked 0 joined.after
        chosen = go (dec_lt ((get h (trunk_of g ar tp)).place a) (half g.fan))
          where
            parent₂ : (get h (trunk_of g above₂.after (top_of s₂))).parent a ≡ (get h s₂).parent a
            parent₂ = ap (λ (z : Trunk). (get h z).parent a) above₂.trunk

            place₂ : (get h (trunk_of g above₂.after (top_of s₂))).place a ≡ (get h s₂).place a
            place₂ = ap (λ (z : Trunk). (get h z).place a) above₂.trunk

            go : Dec ((get h (trunk_of g ar tp)).place a < half g.fan) → cond (ltb ((get h (trunk_of g ar tp)).place a) (half g.fan)) (link g (level_of h) ((get h (trunk_of g ar tp)).parent a) ((get h (trunk_of g ar tp)).place a) new above₂.after)
                (link g (level_of h) tp.inners ((get h (trunk_of g ar tp)).place a - half g.fan) new above₂.after) ≡ linked 0 joined.after
            go (yes lt) = rw (lt-ltb ((get h (trunk_of g ar tp)).place a) (half g.fan) lt)
                (ap₂ (λ (k j : ℕ). link g (level_of h) k j new above₂.after) (sym (parent₂ ∙ (F.lower lt).0)) (sym (place₂ ∙ (F.lower lt).1)) ∙ joined.is)
            go (no ge) = rw (le-ltb ((get h (trunk_of g ar tp)).place a) (half g.fan) (omega arith))
                (ap₂ (λ (k j : ℕ). link g (level_of h) k j new above₂.after) (sym (parent₂ ∙ (F.upper (omega arith)).0)) (sym (place₂ ∙ (F.upper (omega arith)).1)) ∙ joined.is)

        hard : Lifts g L (add_to g above tp (level_of h) ((get h (trunk_of g ar tp)).parent a) a new ar) (insert_child h s₂ a (slot_in h (trunk_of g ar tp) new))
        unfolding link_half m p i
        hard =
            lifts_of (add_to g above tp (level_of h) ((get h (trunk_of g ar tp)).parent a) a new ar) (top_of s₂) joined.after (insert_child h s₂ a (slot_in h (trunk_of g ar tp) new))
            (opened ∙ rw (le-ltb (node_at g ((get h (trunk_of g ar tp)).parent a) ar.inners).len g.fan (omega (arith, sz, ef)), lt-ltb tp.inners g.nodes room, split_is, chosen))
            (joined.trunk (top_of s₂) ∙ ap (λ (z : Trunk). insert_child h z a (slot_in h z new)) above₂.trunk ∙ ap (λ (z : ℕ → ℕ). insert_child h s₂ a (insert.slot_of new z)) F.new)
            joined.both

    step_full : (ef : length (slots_of (node_at g ((get h (trunk_of g ar tp)).parent a) ar.inners)) ≡ g.fan) → full_of (suc d) h (trunk_of g ar tp) a (slot_in h (trunk_of g ar tp) new) ≡ insert_child h (s₂ ef) a (slot_in h (trunk_of g ar tp) new)
    unfolding s₂
    step_full ef = rw (eq-eqb (length (slots_of (node_at g ((get h (trunk_of g ar tp)).parent a) ar.inners))) g.fan ef, add_child, deep)

    pub add_to_law : (full_of (suc d) h (trunk_of g ar tp) a (slot_in h (trunk_of g ar tp) new)).next ≤ g.nodes
        → Lifts g L (add_to g above tp (level_of h) ((get h (trunk_of g ar tp)).parent a) a new ar) (full_of (suc d) h (trunk_of g ar tp) a (slot_in h (trunk_of g ar tp) new))
    add_to_law fits = go (ℕ_discrete (length (slots_of (node_at g ((get h (trunk_of g ar tp)).parent a) ar.inners))) g.fan)
      where
        hard_case : (ef : length (slots_of (node_at g ((get h (trunk_of g ar tp)).parent a) ar.inners)) ≡ g.fan) → full_of (suc d) h (trunk_of g ar tp) a (slot_in h (trunk_of g ar tp) new) ≡ insert_child h (s₂ ef) a (slot_in h (trunk_of g ar tp) new)
            → Lifts g L (add_to g above tp (level_of h) ((get h (trunk_of g ar tp)).parent a) a new ar) (full_of (suc d) h (trunk_of g ar tp) a (slot_in h (trunk_of g ar tp) new))
        hard_case ef q = subst (Lifts g L (add_to g above tp (level_of h) ((get h (trunk_of g ar tp)).parent a) a new ar)) (sym q)
            (hard ef (let z : (insert_child h (s₂ ef) a (slot_in h (trunk_of g ar tp) new)).next ≡ (s₂ ef).next = at_next h (s₂ ef) ((get h (s₂ ef)).parent a) (suc ((get h (s₂ ef)).place a)) (slot_in h (trunk_of g ar tp) new ∷ drop (suc ((get h (s₂ ef)).place a)) ((s₂ ef).inner.slots ((get h (s₂ ef)).parent a))) in
            let y : (full_of (suc d) h (trunk_of g ar tp) a (slot_in h (trunk_of g ar tp) new)).next ≡ (insert_child h (s₂ ef) a (slot_in h (trunk_of g ar tp) new)).next = ap (λ (z : Trunk). z.next) q in omega arith))

        go : Dec (length (slots_of (node_at g ((get h (trunk_of g ar tp)).parent a) ar.inners)) ≡ g.fan)
            → Lifts g L (add_to g above tp (level_of h) ((get h (trunk_of g ar tp)).parent a) a new ar) (full_of (suc d) h (trunk_of g ar tp) a (slot_in h (trunk_of g ar tp) new))
        go (no ne) = easy ne
        go (yes ef) = hard_case ef (step_full ef)

  -- with no level left a new root, else one level up
  pub above_lifted : 4 ≤ g.fan → (d : ℕ) → Lifted d (above_of g d)
  unfolding above_of All
  above_lifted fan_low zero h ar tp t t' A a B new [] deep r kept few fits =
      let la : a < tp.inners = (all_right (λ c. c < tp.inners) A (a ∷ B) r.kids).0 in
      let q : Rooted g L h a new tp ar = root_is g sized pos L h a new tp ar r.both la r.new_in fits (omega arith)
      (λ v. let z : node.total v (used (node_at g a ar.inners)) ≡ t' a v = sym (sum_slots v (used (node_at g a ar.inners))) ∙ ap (λ (f : ℕ → ℕ). f v) (sym kept) in let y = r.into.sum v in let u = own_small (suc h) ar tp t t' A a B new [] r v in omega arith)
      (λ v. let z = new_total (suc h) ar tp t t' A a B new [] r v in let y = r.into.sum v in let u = own_small (suc h) ar tp t t' A a B new [] r v in omega arith) in
      record { after = q.after; is = q.is; trunk = q.trunk; both = q.both }
  above_lifted fan_low zero h ar tp t t' A a B new (P ∷ st) deep r kept few fits = absurd (omega arith)
  above_lifted fan_low (suc d) h ar tp t t' A a B new [] deep r kept few fits = absurd (omega arith)
  above_lifted fan_low (suc d) h ar tp t t' A a B new (P ∷ st) deep r kept few fits =
      add_to_law fan_low d (above_of g d) (above_lifted fan_low d) (suc h) ar tp t t' A a B new P st (let z : length st ≡ d = omega arith in z) r few fits
