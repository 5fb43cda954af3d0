-- The slot of a node in its parent, a node adopted anew, and a slot divided in two, as the abstract tree has them.
use Rattle.std.specs.Prelude.{◌≡◌, false, replicate}
use Rattle.std.proofs.Math.Path.{refl, sym, ap, ap₂, subst, fun_ext}
use Rattle.std.proofs.Common.{◌∙◌, zero-add, add-zero, add-suc, suc-add, add-one}
use mathlib.Core.List.{List, [], ◌∷◌, ◌++◌, map}
use Prim.Native.Nat.{ℕ, zero, suc, ◌+◌, ◌-◌, ◌%◌, ◌^◌, ◌<◌, ◌≤◌}
use Rattle.std.proofs.Math.Decide.{dec_lt}
use native.Mathlib.Omega.{arith}
use Rattle.std.proofs.Math.ListN.{length, get_or, take, drop, set, length-set, length-append, length-drop, get_or-eq_default}
use Rattle.std.proofs.Math.Seq.{take-suc-set, drop-set-lt, length-take-le}
use Rattle.model.specs.Lists.{All, sum_by}
use Rattle.model.specs.Node as node
use Rattle.model.specs.Node.{Node, none, child, lengths, length_in, used, minus, lengths_at, with_lengths, empty_slot, empty_slots, totals_from, slot_for, inserted, child_split, adopted}
use Rattle.model_laws.specs.Lists.{all_at_at, all_take, all_drop, all_append, length_zip}
use Rattle.model_tree.specs.Lists.{sum_by_append}
use Rattle.model_tree.specs.Levels.{len}
use Rattle.model_tree.specs.Insert as insert
use Rattle.model_tree.specs.Insert.{lessen}
use Rattle.model_theory.specs.WordTidy.{Tidy, made, tidy_made, used_made, slot_used, inserted_made, lengths_made}
use Rattle.model_theory.specs.LiftTree.{slot_of, slots_of, sum_slots}
use Rattle.model_theory.specs.LiftMarks.{total_past}
use Rattle.model_theory.specs.ChangeSums.{slot_of_law, minus_at, lengths_at_law}

pub drop_map : {A B : Type 0} (f : A → B) (n : ℕ) (l : List A) → drop n (map f l) ≡ map f (drop n l)
drop_map f zero l = refl
drop_map f (suc n) [] = refl
drop_map f (suc n) (x ∷ l) = drop_map f n l

-- unused slots have no length
zeros : (n v : ℕ) → ◌≡◌ {A = ℕ} (get_or (replicate n 0) v 0) 0
zeros zero v = refl
zeros (suc n) zero = refl
zeros (suc n) (suc v) = zeros n v

empty_total : (s v n : ℕ) → node.total v (empty_slots s n) ≡ 0
unfolding sum_by empty_slot
empty_total s v zero = refl
empty_total s v (suc n) =
    let e : length_in v (none ∷ replicate (s - 1) 0) ≡ 0 = rw add-one (zeros (s - 1) v) in
    omega (arith, empty_total s v n)

pub slots_total : (s fan v : ℕ) (n : Node) → Tidy s fan n → node.total v n.slots ≡ node.total v (used n)
slots_total s fan v n t =
    ap (λ (m : Node). node.total v m.slots) t.is ∙ sum_by_append (length_in v) (used n) (empty_slots s (fan - length (used n))) ∙ (let z = empty_total s v (fan - length (used n)) in omega arith)

pub totals_at : (m w v : ℕ) (xs : List (List ℕ)) → v < m → get_or (totals_from m w xs) v 0 ≡ node.total (w + v) xs % 2 ^ 32
unfolding totals_from
totals_at zero w v xs h = absurd (omega arith)
totals_at (suc m) w zero xs h = ap (λ (k : ℕ). node.total k xs % 2 ^ 32) (sym (add-zero w))
totals_at (suc m) w (suc v) xs h = totals_at m (suc w) v xs (omega arith) ∙ ap (λ (k : ℕ). node.total k xs % 2 ^ 32) (suc-add w v ∙ sym (add-suc w v))

pub length_totals : (m w : ℕ) (xs : List (List ℕ)) → length (totals_from m w xs) ≡ m
unfolding totals_from
length_totals zero w xs = refl
length_totals (suc m) w xs = ap suc (length_totals m (suc w) xs)

-- the slot for a tidy node has the sums of its slots in use
module _ (s fan : ℕ) (pos : 0 < s) (k : ℕ) (n : Node) (t : Tidy s fan n) where
  pub slot_for_law : ((v : ℕ) → node.total v (used n) < 4294967296) → slot_of (slot_for s k n) ≡ insert.slot_of k (λ v. sum_by (len v) (slots_of n))
  unfolding slot_for
  slot_for_law small =
      slot_of_law k (totals_from (s - 1) 0 n.slots)
      ∙ (λ i. record { child = k; lens = fun_ext (λ v. at v (dec_lt v (s - 1))) i })
    where
      at : (v : ℕ) → Dec (v < s - 1) → get_or (totals_from (s - 1) 0 n.slots) v 0 ≡ sum_by (len v) (slots_of n)
      at v (yes lt) =
          totals_at (s - 1) 0 v n.slots lt ∙ ap (λ (w : ℕ). node.total w n.slots % 2 ^ 32) (zero-add v) ∙ ap (λ (m : ℕ). m % 2 ^ 32) (slots_total s fan v n t)
          ∙ (let z = small v in let y : node.total v (used n) % 2 ^ 32 ≡ node.total v (used n) = omega arith in y) ∙ sym (sum_slots v (used n))
      at v (no ge) = get_or-eq_default (totals_from (s - 1) 0 n.slots) 0 {n = v} (let z = length_totals (s - 1) 0 n.slots in omega arith)
          ∙ sym (sum_slots v (used n) ∙ total_past s (used n) v t.wide (omega arith))

  pub slot_wide : length (slot_for s k n) ≡ s
  unfolding slot_for
  slot_wide = (let z = length_totals (s - 1) 0 n.slots in omega arith)

-- a node with another parent and place
pub adopted_tidy : (s fan p i : ℕ) (n : Node) → Tidy s fan n → Tidy s fan (adopted p i n)
adopted_tidy s fan p i n t = record { is = ap (adopted p i) t.is; most = t.most; wide = t.wide }

-- a slot divided: x takes its lengths and stands just behind it
module _ (s fan : ℕ) (n : Node) (t : Tidy s fan n) (i : ℕ) (x : List ℕ) (li : i < length (used n)) (lf : length (used n) < fan) (wx : length x ≡ s) (pos : 0 < s) where
  rest : List ℕ
  rest = minus (lengths_at i n.slots) (lengths x)

  same : lengths_at i n.slots ≡ lengths (get_or (used n) i [])
  same = ap lengths (slot_used s fan n t i [] li)

  long : length (lengths (get_or (used n) i [])) + 1 ≡ s
  long = (let z : length (get_or (used n) i []) ≡ s = all_at_at (λ y. length y ≡ s) i [] (used n) li t.wide in let y = length-drop 1 (get_or (used n) i []) in omega arith)

  long_x : length (lengths x) + 1 ≡ s
  long_x = (let y = length-drop 1 x in omega arith)

  rest_long : length rest + 1 ≡ s
  unfolding rest minus
  rest_long = (let z : length (minus (lengths_at i n.slots) (lengths x)) ≡ length (lengths_at i n.slots) = length_zip (λ a b. (a + (2 ^ 32 - b)) % 2 ^ 32) (lengths_at i n.slots) (lengths x) (ap length same ∙ (omega (arith, long, long_x))) in
      let y = ap length same in omega (arith, long))

  rows : List (List ℕ)
  rows = take i (used n) ++ (child (get_or (used n) i []) ∷ rest) ∷ x ∷ drop (suc i) (used n)

  split_node_law : child_split false i x n ≡ made s fan n.parent n.at rows
  unfolding child_split rest rows
  split_node_law =
      let y : List ℕ = child (get_or (used n) i []) ∷ rest in
      let R : List (List ℕ) = set (used n) i y in
      let lr : length R ≡ length (used n) = length-set (used n) i y in
      let e : with_lengths i rest n ≡ made s fan n.parent n.at R = ap (with_lengths i rest) t.is ∙ lengths_made s fan n.parent n.at (used n) i rest li in
      let tk : take (suc i) R ≡ take i (used n) ++ (y ∷ []) = take-suc-set (used n) i y li in
      let dp : drop (suc i) R ≡ drop (suc i) (used n) = drop-set-lt (suc i) (used n) i y (omega arith) in
      ap (inserted (i + 1) x) e ∙ inserted_made s fan n.parent n.at R (i + 1) x (omega arith) (omega arith)
      ∙ ap (λ (k : ℕ). made s fan n.parent n.at (take k R ++ x ∷ drop k R)) (add-one i)
      ∙ ap₂ (λ (a b : List (List ℕ)). made s fan n.parent n.at (a ++ x ∷ b)) tk dp
      ∙ ap (made s fan n.parent n.at) (assoc (take i (used n)) y (x ∷ drop (suc i) (used n)))
    where
      assoc : (a : List (List ℕ)) (y : List ℕ) (b : List (List ℕ)) → (a ++ (y ∷ [])) ++ b ≡ a ++ y ∷ b
      assoc [] y b = refl
      assoc (z ∷ a) y b = ap {B = List (List ℕ)} (λ l. z ∷ l) (assoc a y b)

  rows_length : length rows ≡ suc (length (used n))
  unfolding rows
  rows_length = (let a = length-append (take i (used n)) ((child (get_or (used n) i []) ∷ rest) ∷ x ∷ drop (suc i) (used n)) in let b = length-take-le i (used n) (omega arith) in let d = length-drop (suc i) (used n) in omega arith)

  pub split_tidy : Tidy s fan (child_split false i x n)
  unfolding rows All
  split_tidy = subst (Tidy s fan) (sym split_node_law) (tidy_made s fan n.parent n.at rows (omega (arith, rows_length))
      (all_append (λ y. length y ≡ s) (take i (used n)) ((child (get_or (used n) i []) ∷ rest) ∷ x ∷ drop (suc i) (used n)) (all_take (λ y. length y ≡ s) i (used n) t.wide)
      ((let z = rest_long in omega arith), (wx, all_drop (λ y. length y ≡ s) (suc i) (used n) t.wide))))

  pub split_parent : (child_split false i x n).parent ≡ n.parent
  split_parent = ap (λ (m : Node). m.parent) split_node_law

  pub split_at : (child_split false i x n).at ≡ n.at
  split_at = ap (λ (m : Node). m.at) split_node_law

  pub split_used : used (child_split false i x n) ≡ take i (used n) ++ (child (get_or (used n) i []) ∷ minus (lengths_at i n.slots) (lengths x)) ∷ x ∷ drop (suc i) (used n)
  unfolding rows rest
  split_used = ap used split_node_law ∙ used_made s fan n.parent n.at rows

  -- the rest of the slot, where x has no more than it
  pub rest_is : ((v : ℕ) → length_in v x ≤ length_in v (get_or (used n) i [])) → ((v : ℕ) → length_in v (get_or (used n) i []) < 4294967296)
      → slot_of (child (get_or (used n) i []) ∷ minus (lengths_at i n.slots) (lengths x)) ≡ lessen (slot_of (get_or (used n) i [])) (slot_of x).lens
  rest_is le small =
      slot_of_law (child (get_or (used n) i [])) (minus (lengths_at i n.slots) (lengths x))
      ∙ (λ j. record { child = child (get_or (used n) i []); lens = fun_ext (λ v. at v) j })
    where
      at : (v : ℕ) → get_or (minus (lengths_at i n.slots) (lengths x)) v 0 ≡ length_in v (get_or (used n) i []) - length_in v x
      at v = ap (λ (l : List ℕ). get_or (minus l (lengths x)) v 0) same ∙ minus_at (lengths (get_or (used n) i [])) (lengths x) v (omega (arith, long, long_x))
          ∙ ap₂ (λ (a b : ℕ). (a + (2 ^ 32 - b)) % 2 ^ 32) (lengths_at_law (get_or (used n) i []) v) (lengths_at_law x v)
          ∙ (let z = le v in let y = small v in let u : (length_in v (get_or (used n) i []) + (2 ^ 32 - length_in v x)) % 2 ^ 32 ≡ length_in v (get_or (used n) i []) - length_in v x = omega arith in u)
