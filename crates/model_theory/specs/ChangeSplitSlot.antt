-- A slot of a leaf divided: the entry gets its lengths out of the slot, just before it or just after. Assumes nothing.
use Rattle.std.specs.Prelude.{◌≡◌, Bool, cond, ℕ, suc, ◌+◌, ◌-◌, ◌%◌, ◌^◌, ◌<◌, ◌≤◌, get_or}
use Rattle.std.proofs.Math.Path.{refl, sym, ap, ap₂}
use Rattle.std.proofs.Common.{◌∙◌, add-one, drop-set-lt, take-suc-set, get_or-set_same}
use Rattle.std.proofs.Math.Bool.{true, false}
use mathlib.Core.List.{List, [], ◌∷◌, ◌++◌}
use native.Mathlib.Omega.{arith}
use Rattle.std.proofs.Math.ListN.{length, take, drop, set, length-set, length-map, length-drop}
use Rattle.std.proofs.lemmas.List.{take-set-le}
use Rattle.std.proofs.Math.Seq.{drop-cons}
use Rattle.model.specs.Node.{Node, child, lengths, length_in, used, minus, lengths_at, with_lengths, child_split}
use Rattle.model_laws.specs.Lists.{all_at_at, length_zip}
use Rattle.model_tree.specs.Levels.{no_slot, Slot}
use Rattle.model_tree.specs.Insert as insert
use Rattle.model_tree.specs.Insert.{lessen}
use Rattle.model_tree.specs.Edit.{divided}
use Rattle.model_theory.specs.WordTidy.{Tidy, slot_used}
use Rattle.model_theory.specs.LiftTree.{slot_of, slots_of}
use Rattle.model_theory.specs.LiftMarks.{get_d_slot}
use Rattle.model_theory.specs.ChangeSums.{slot_of_law, lengths_tidy, lengths_slots}
use Rattle.model_theory.specs.ChangeSlot.{rest_is}
use Rattle.model_theory.specs.ChangeEnter.{put_is, put_tidy, put_slots_are}

module _ (s fan : ℕ) (pos : 0 < s) (n : Node) (t : Tidy s fan n) (j : ℕ) (x : List ℕ) (lj : j < length (used n)) (room : length (used n) < fan) (wx : length x ≡ s)
    (le : (v : ℕ) → length_in v x ≤ length_in v (get_or (used n) j [])) (small : (v : ℕ) → length_in v (get_or (used n) j []) < 4294967296) where
  rest : List ℕ
  rest = minus (lengths_at j n.slots) (lengths x)

  rest_long : length rest + 1 ≡ s
  unfolding rest minus
  rest_long =
      let same : lengths_at j n.slots ≡ lengths (get_or (used n) j []) = ap lengths (slot_used s fan n t j [] lj) in
      let long : length (lengths (get_or (used n) j [])) + 1 ≡ s = (let z : length (get_or (used n) j []) ≡ s = all_at_at (λ y. length y ≡ s) j [] (used n) lj t.wide in let y = length-drop 1 (get_or (used n) j []) in omega arith) in
      let long_x : length (lengths x) + 1 ≡ s = (let y = length-drop 1 x in omega arith) in
      let z : length (minus (lengths_at j n.slots) (lengths x)) ≡ length (lengths_at j n.slots) = length_zip (λ a b. (a + (2 ^ 32 - b)) % 2 ^ 32) (lengths_at j n.slots) (lengths x) (ap length same ∙ (omega arith)) in
      let y = ap length same in omega arith

  n' : Node
  n' = with_lengths j rest n

  tidy' : Tidy s fan n'
  unfolding n'
  tidy' = lengths_tidy s fan n t j rest lj rest_long

  -- the slot that is left
  slots' : slots_of n' ≡ set (slots_of n) j (lessen (get_or (slots_of n) j no_slot) (slot_of x).lens)
  unfolding n' rest
  slots' = lengths_slots s fan n t j rest lj
      ∙ ap (set (slots_of n) j) (sym (slot_of_law (child (get_or (used n) j [])) rest) ∙ rest_is s fan n t j x lj room wx pos le small ∙ ap (λ (y : Slot). lessen y (slot_of x).lens) (sym (get_d_slot (used n) j lj)))

  size' : length (used n') ≡ length (used n)
  size' = sym (length-map (used n') slot_of) ∙ ap length slots' ∙ length-set (slots_of n) j (lessen (get_or (slots_of n) j no_slot) (slot_of x).lens) ∙ length-map (used n) slot_of

  jj : Bool → ℕ
  jj flag = cond flag j (j + 1)

  jj_in : (flag : Bool) → jj flag ≤ length (used n')
  unfolding jj
  jj_in true = (let z = size' in omega arith)
  jj_in false = (let z = size' in omega arith)

  room' : length (used n') < fan
  room' = (let z = size' in omega arith)

  pub halved_tidy : (flag : Bool) → Tidy s fan (child_split flag j x n)
  unfolding child_split n' rest jj
  halved_tidy flag = put_tidy s fan pos n' tidy' (jj flag) x (jj_in flag) room' wx

  pub halved_parent : (flag : Bool) → n.parent ≡ (child_split flag j x n).parent
  unfolding child_split n' rest jj
  halved_parent flag = sym (ap (λ (m : Node). m.parent) (put_is s fan pos n' tidy' (jj flag) x (jj_in flag) room' wx))

  pub halved_at : (flag : Bool) → n.at ≡ (child_split flag j x n).at
  unfolding child_split n' rest jj
  halved_at flag = sym (ap (λ (m : Node). m.at) (put_is s fan pos n' tidy' (jj flag) x (jj_in flag) room' wx))

  halved_put : (flag : Bool) → slots_of (child_split flag j x n) ≡ take (jj flag) (slots_of n') ++ slot_of x ∷ drop (jj flag) (slots_of n')
  unfolding child_split n' rest jj
  halved_put flag = put_slots_are s fan pos n' tidy' (jj flag) x (jj_in flag) room' wx

  -- as the abstract tree divides it
  pub halved_slots : (flag : Bool) (c : ℕ) (u : ℕ → ℕ) → slot_of x ≡ insert.slot_of c u → slots_of (child_split flag j x n) ≡ take j (slots_of n) ++ divided flag (get_or (slots_of n) j no_slot) u c (drop (suc j) (slots_of n))
  unfolding jj
  halved_slots true c u e =
      let y : Slot = lessen (get_or (slots_of n) j no_slot) (slot_of x).lens in
      let lz : j < length (slots_of n) = (let z = length-map (used n) slot_of in omega arith) in
      let S : List Slot = set (slots_of n) j y in
      let ls : length S ≡ length (slots_of n) = length-set (slots_of n) j y in
      let dr : drop j S ≡ y ∷ drop (suc j) (slots_of n) = drop-cons S j no_slot (omega arith) ∙ ap₂ ◌∷◌ (get_or-set_same (slots_of n) j y no_slot lz) (drop-set-lt (suc j) (slots_of n) j y (omega arith)) in
      halved_put true ∙ ap (λ (l : List Slot). take j l ++ slot_of x ∷ drop j l) slots'
      ∙ ap₂ (λ (a b : List Slot). a ++ slot_of x ∷ b) (take-set-le j (slots_of n) j y (omega arith)) dr
      ∙ ap (λ (z : Slot). take j (slots_of n) ++ z ∷ lessen (get_or (slots_of n) j no_slot) z.lens ∷ drop (suc j) (slots_of n)) e
  halved_slots false c u e =
      let y : Slot = lessen (get_or (slots_of n) j no_slot) (slot_of x).lens in
      let lz : j < length (slots_of n) = (let z = length-map (used n) slot_of in omega arith) in
      halved_put false ∙ ap₂ (λ (k : ℕ) (l : List Slot). take k l ++ slot_of x ∷ drop k l) (add-one j) slots'
      ∙ ap₂ (λ (a b : List Slot). a ++ slot_of x ∷ b) (take-suc-set (slots_of n) j y lz) (drop-set-lt (suc j) (slots_of n) j y (omega arith))
      ∙ assoc (take j (slots_of n)) y (slot_of x ∷ drop (suc j) (slots_of n))
      ∙ ap (λ (z : Slot). take j (slots_of n) ++ lessen (get_or (slots_of n) j no_slot) z.lens ∷ z ∷ drop (suc j) (slots_of n)) e
    where
      assoc : (a : List Slot) (y : Slot) (b : List Slot) → (a ++ (y ∷ [])) ++ b ≡ a ++ y ∷ b
      assoc [] y b = refl
      assoc (z ∷ a) y b = ap {B = List Slot} (λ l. z ∷ l) (assoc a y b)
