-- An area's nodes: what is read after a node is written, and half of a node moved into another. Assumes nothing.
use Rattle.std.specs.Prelude.{◌≡◌, ◌⊎◌, ℕ, zero, suc, ◌+◌, ◌-◌, ◌*◌, ◌<◌, ◌≤◌}
use Rattle.std.proofs.Math.Path.{refl, ap, ap₂}
use Rattle.std.proofs.Common.{sym, ◌∙◌, inl, inr, ⊎_elim, add-zero, length-drop}
use mathlib.Core.List.{List, []}
use native.Mathlib.Omega.{arith}
use Rattle.std.proofs.Math.ListN.{length, get_or, drop}
use Rattle.model.specs.Lists.{part, put_at}
use Rattle.model.specs.Node.{Node, node_of, words_of, slots_from, half, lower_half, upper_half}
use Rattle.model.specs.State.{node_at, put_node}
use Rattle.model.specs.declared.shape.Shape.{Shape}
use Rattle.model_laws.specs.Lists.{all_drop, rows_between, in_row, row_end}
use Rattle.model_laws.specs.Words.{length_part, length_put, get_d_part, part_part, part_end, part_same, part_before, part_after, part_inside, put_over}
use Rattle.model_laws.specs.Slots.{Long, Wide, flat, column, slots_length, slots_wide, length_flat}
use Rattle.model_laws.specs.Nodes.{Formed, formed, length_words, node_words, words_drop}
use Rattle.model_laws.specs.Formed.{kept, formed_upper}
use Rattle.model_laws.specs.Changes.{new_node_law}

apart : (j k : ℕ) → (j ≡ k → ⊥) → (j < k) ⊎ (k < j)
apart zero zero d = absurd (d refl)
apart zero (suc k) d = inl (omega arith)
apart (suc j) zero d = inr (omega arith)
apart (suc j) (suc k) d = ⊎_elim (λ l. inl (omega arith)) (λ l. inr (omega arith)) (apart j k (λ e. d (ap suc e)))

-- the words of node k, in the area
module _ (g : Shape) (k : ℕ) (area : List ℕ) (e : g.size ≡ 3 + g.fan * g.stride) where
  pub len_at : (node_at g k area).len ≡ get_or area (k * g.size) 0
  unfolding node_of
  len_at = get_d_part (k * g.size) g.size 0 area (omega arith) ∙ ap (λ (i : ℕ). get_or area i 0) (add-zero (k * g.size))

  pub parent_at : (node_at g k area).parent ≡ get_or area (k * g.size + 1) 0
  unfolding node_of
  parent_at = get_d_part (k * g.size) g.size 1 area (omega arith)

  pub place_at : (node_at g k area).at ≡ get_or area (k * g.size + 2) 0
  unfolding node_of
  place_at = get_d_part (k * g.size) g.size 2 area (omega arith)

  pub column_at : (i c : ℕ) → i < g.fan → c < g.stride → get_or (get_or (node_at g k area).slots i []) c 0 ≡ get_or area (k * g.size + (3 + i * g.stride + c)) 0
  unfolding node_of
  column_at i c h l =
      column g.stride g.fan i 3 c (part (k * g.size) g.size area) h l
      ∙ get_d_part (k * g.size) g.size (3 + i * g.stride + c) area (omega (arith, in_row i g.fan g.stride c h l))

-- node k of an area whose nodes have the size that their slots ask for
module _ (g : Shape) (k : ℕ) (area : List ℕ) (e : g.size ≡ 3 + g.fan * g.stride) (h : k * g.size + g.size ≤ length area) where
  pub length_node : length (part (k * g.size) g.size area) ≡ 3 + g.fan * g.stride
  length_node = length_part (k * g.size) g.size area h ∙ e

  pub formed_at : Formed g.stride g.fan (node_at g k area)
  formed_at = formed g.stride g.fan (part (k * g.size) g.size area) length_node

  module _ (n : Node) (f : Formed g.stride g.fan n) where
    pub length_is : length (words_of n) ≡ g.size
    length_is = length_words g.stride g.fan n f ∙ sym e

    pub length_put_node : length (put_node g k n area) ≡ length area
    length_put_node = length_put (k * g.size) (words_of n) area (omega (arith, length_is))

    pub node_same : node_at g k (put_node g k n area) ≡ n
    node_same =
        ap (node_of g.stride g.fan) (rw length_is at (part_same (k * g.size) (words_of n) area (omega (arith, length_is)))) ∙ node_words g.stride g.fan n f

    pub node_before : (j : ℕ) → j < k → node_at g j (put_node g k n area) ≡ node_at g j area
    node_before j l =
        ap (node_of g.stride g.fan) (part_before (j * g.size) g.size (k * g.size) (words_of n) area (row_end j k g.size l) (omega (arith, length_is)))

    pub node_after : (j : ℕ) → k < j → node_at g j (put_node g k n area) ≡ node_at g j area
    node_after j l =
        ap (node_of g.stride g.fan) (part_after (j * g.size) g.size (k * g.size) (words_of n) area (omega (arith, length_is, row_end k j g.size l)) (omega (arith, length_is)))

    pub node_other : (j : ℕ) → (j ≡ k → ⊥) → node_at g j (put_node g k n area) ≡ node_at g j area
    node_other j d = ⊎_elim (node_before j) (node_after j) (apart j k d)

-- the upper half of node k moves into node j
module _ (g : Shape) (k j : ℕ) (area : List ℕ) (hs : 0 < g.stride) (e : g.size ≡ 3 + g.fan * g.stride) (hk : k < j) (hj : j * g.size + g.size ≤ length area) where
  -- node k's words, and the area's word where its upper half begins
  abbrev own : List ℕ
  own = part (k * g.size) g.size area

  abbrev from : ℕ
  from = k * g.size + 3 + half g.fan * g.stride

  ends : k * g.size + g.size ≤ j * g.size
  ends = row_end k j g.size hk

  fits : half g.fan * g.stride + (g.fan - half g.fan) * g.stride ≡ g.fan * g.stride
  fits = rows_between (half g.fan) g.fan g.stride (omega arith)

  own_length : length (part (k * g.size) g.size area) ≡ 3 + g.fan * g.stride
  own_length = length_node g k area e (omega (arith, ends))

  -- the words that move are the upper slots
  pub moved : part from (k * g.size + g.size - from) area ≡ flat (drop (half g.fan) (slots_from g.stride g.fan 3 own))
  moved =
      let m : ℕ = k * g.size + g.size - from in
      let q : k * g.size + (3 + half g.fan * g.stride) ≡ from = omega arith in
      let p : part (3 + half g.fan * g.stride) m own ≡ part from m area = rw q at (part_part (k * g.size) g.size (3 + half g.fan * g.stride) m area (omega (arith, fits))) in
      sym p ∙ part_end (3 + half g.fan * g.stride) m own (omega (arith, own_length, fits)) ∙ words_drop g.stride g.fan (half g.fan) own own_length (omega arith)

  -- node j keeps those slots alone
  pub upper_is : (now : List ℕ) → now ≡ put_at (from + (j * g.size + 3 - from)) (part from (k * g.size + g.size - from) area) area
      → kept g.stride g.fan (g.fan - half g.fan) (get_or area (k * g.size + 1) 0) 0 (node_of g.stride g.fan (part (j * g.size) g.size now)) ≡ upper_half g.stride g.fan (node_at g k area)
  unfolding upper_half node_of
  upper_is now en =
      let rows : List (List ℕ) = drop (half g.fan) (slots_from g.stride g.fan 3 own) in
      let lr : length rows ≡ g.fan - half g.fan = rw (length-drop, slots_length) refl in
      let wide : Wide g.stride rows = all_drop (Long g.stride) (half g.fan) _ (slots_wide g.stride g.fan 3 own (omega (arith, own_length))) in
      let lf : length (flat rows) ≡ (g.fan - half g.fan) * g.stride = length_flat g.stride rows wide ∙ ap (λ (m : ℕ). m * g.stride) lr in
      let q : from + (j * g.size + 3 - from) ≡ j * g.size + 3 = omega (arith, fits, ends) in
      let a : now ≡ put_at (j * g.size + 3) (flat rows) area = en ∙ rw (q, moved) in
      let b : part (j * g.size) g.size now ≡ put_at 3 (flat rows) (part (j * g.size) g.size area) = rw a (part_inside (j * g.size) g.size 3 (flat rows) area hj (omega (arith, fits))) in
      let z : g.fan - (g.fan - half g.fan) ≡ half g.fan = omega arith in
      ap₂ (λ (m p : ℕ). kept g.stride g.fan m p 0 (node_of g.stride g.fan (part (j * g.size) g.size now))) (sym lr) (sym (parent_at g k area e))
      ∙ new_node_law g.stride g.fan (get_or own 1 0) rows (part (j * g.size) g.size area) _ (length_node g j area e hj) wide (omega arith) b
      ∙ rw (lr, z)

  -- and node k, whose words are still its own, keeps the lower slots
  pub split_area : (one two three : List ℕ) → one ≡ put_at (from + (j * g.size + 3 - from)) (part from (k * g.size + g.size - from) area) area
      → two ≡ put_node g j (kept g.stride g.fan (g.fan - half g.fan) (get_or area (k * g.size + 1) 0) 0 (node_at g j one)) one
      → three ≡ put_node g k (lower_half g.stride g.fan (node_at g k two)) two
      → three ≡ put_node g k (lower_half g.stride g.fan (node_at g k area)) (put_node g j (upper_half g.stride g.fan (node_at g k area)) area)
  split_area one two three e1 e2 e3 =
      let up : Node = upper_half g.stride g.fan (node_at g k area) in
      let fu : Formed g.stride g.fan up = formed_upper g.stride g.fan (node_at g k area) (formed_at g k area e (omega (arith, ends))) hs in
      let lu : length (words_of up) ≡ g.size = length_is g j area e hj up fu in
      let m : ℕ = k * g.size + g.size - from in
      let lm : length (part from m area) ≡ m = length_part from m area (omega (arith, fits, ends)) in
      let q : from + (j * g.size + 3 - from) ≡ j * g.size + 3 = omega (arith, fits, ends) in
      let a : two ≡ put_node g j up one = e2 ∙ ap (λ (n : Node). put_node g j n one) (upper_is one e1) in
      let b : two ≡ put_node g j up area = a ∙ rw (e1, q) (put_over (j * g.size) 3 (part from m area) (words_of up) area (omega arith) (omega (arith, fits))) in
      let o : part (k * g.size) g.size two ≡ own = ap (part (k * g.size) g.size) b ∙ part_before (k * g.size) g.size (j * g.size) (words_of up) area ends (omega arith) in
      e3
      ∙ ap (λ (l : List ℕ). put_node g k (lower_half g.stride g.fan (node_of g.stride g.fan l)) two) o
      ∙ ap (put_node g k (lower_half g.stride g.fan (node_at g k area))) b
