-- Well formed nodes: every change of a node leaves it with as many slots as the fan, each of s words. Assumes nothing.
use Rattle.std.specs.Prelude.{◌≡◌, Bool, true, false, cond, ℕ, ◌+◌, ◌-◌, ◌^◌, ◌<◌, ◌≤◌, get_or, take, drop}
use mathlib.Core.List.{List, [], ◌∷◌, ◌++◌, zip_with}
use Rattle.std.proofs.Common.{arith, length-append, length-drop, length-set}
use Rattle.std.proofs.Math.ListN.{length, length-take, length-replicate}
use Rattle.model.specs.Lists.{All}
use Rattle.model.specs.Node.{Node, node, child, lengths, lengths_at, with_lengths, inserted, child_split, wrap, minus, empty_slot, empty_slots, half, lower_half, upper_half, new_node, adopted}
use Rattle.model_laws.specs.Lists.{length_zip, all_append, all_take, all_drop, all_set, all_replicate, all_at_at}
use Rattle.model_laws.specs.Slots.{Long, Wide}
use Rattle.model_laws.specs.Nodes.{Formed, over}

-- the first m slots kept and the others empty, under that parent and at that place there
abbrev pub kept : ℕ → ℕ → ℕ → ℕ → ℕ → Node → Node
kept s fan m parent at n = node m parent at (take m n.slots ++ empty_slots s (fan - m))

pub length_empty : (s : ℕ) → 0 < s → length (empty_slot s) ≡ s
unfolding empty_slot
length_empty s h = rw (length-replicate {A = ℕ} (s - 1) 0) (omega arith)

pub empty_wide : (s n : ℕ) → 0 < s → Wide s (empty_slots s n)
empty_wide s n h = all_replicate (Long s) n (empty_slot s) (length_empty s h)

-- a node stays well formed
module _ (s fan : ℕ) (n : Node) (f : Formed s fan n) where
  pub formed_lengths : (i : ℕ) (ls : List ℕ) → length ls + 1 ≡ s → Formed s fan (with_lengths i ls n)
  formed_lengths i ls e =
      record { count = simp length-set f.count; wide = all_set (Long s) i (child (get_or n.slots i []) ∷ ls) n.slots (omega arith) f.wide }

  pub formed_inserted : (i : ℕ) (x : List ℕ) → length x ≡ s → i ≤ n.len → n.len < fan → Formed s fan (inserted i x n)
  unfolding inserted All
  formed_inserted i x e h g =
      let c = f.count in
      record {
        count = simp (length-append, length-take, length-drop) (omega arith);
        wide = all_append (Long s) (take i n.slots) _ (all_take (Long s) i n.slots f.wide)
            (e, all_append (Long s) (take (n.len - i) (drop i n.slots)) _ (all_take (Long s) (n.len - i) _ (all_drop (Long s) i n.slots f.wide)) (all_drop (Long s) (n.len + 1) n.slots f.wide));
      }

  pub formed_over : (i : ℕ) (rows : List (List ℕ)) → Wide s rows → i + length rows ≤ fan → Formed s fan (over i rows n)
  formed_over i rows w h =
      let c = f.count in
      record {
        count = simp (length-append, length-take, length-drop) (omega arith);
        wide = all_append (Long s) (take i n.slots) _ (all_take (Long s) i n.slots f.wide) (all_append (Long s) rows _ w (all_drop (Long s) (i + length rows) n.slots f.wide));
      }

  pub formed_kept : (m parent at : ℕ) → 0 < s → m ≤ fan → Formed s fan (kept s fan m parent at n)
  formed_kept m parent at hs h =
      let c = f.count in
      let l : length (empty_slots s (fan - m)) ≡ fan - m = length-replicate (fan - m) (empty_slot s) in
      record { count = simp (length-append, length-take) (omega arith); wide = all_append (Long s) (take m n.slots) _ (all_take (Long s) m n.slots f.wide) (empty_wide s (fan - m) hs) }

  pub formed_lower : 0 < s → Formed s fan (lower_half s fan n)
  unfolding lower_half
  formed_lower hs = formed_kept (half fan) n.parent n.at hs (omega arith)

  pub formed_upper : 0 < s → Formed s fan (upper_half s fan n)
  unfolding upper_half
  formed_upper hs =
      let c = f.count in
      let l : length (empty_slots s (half fan)) ≡ half fan = length-replicate (half fan) (empty_slot s) in
      record { count = simp (length-append, length-drop) (omega arith); wide = all_append (Long s) (drop (half fan) n.slots) _ (all_drop (Long s) (half fan) n.slots f.wide) (empty_wide s (half fan) hs) }

  pub formed_adopted : (parent at : ℕ) → Formed s fan (adopted parent at n)
  formed_adopted parent at = record { count = f.count; wide = f.wide }

pub formed_split : (s fan : ℕ) (n : Node) → Formed s fan n → (before : Bool) (i : ℕ) (x : List ℕ) → length x ≡ s → 0 < s → i < n.len → n.len < fan → Formed s fan (child_split before i x n)
unfolding child_split minus
formed_split s fan n f before i x e hs h g =
    let c = f.count in
    let r : length (get_or n.slots i []) ≡ s = all_at_at (Long s) i [] n.slots (omega arith) f.wide in
    let ly : length (lengths_at i n.slots) ≡ s - 1 = rw (length-drop, r) in
    let lx : length (lengths x) ≡ s - 1 = rw (length-drop, e) in
    let z = length_zip (λ a b. wrap (a + (2 ^ 32 - b))) (lengths_at i n.slots) (lengths x) (omega arith) in
    let ls : List ℕ = zip_with (λ a b. wrap (a + (2 ^ 32 - b))) (lengths_at i n.slots) (lengths x) in
    formed_inserted s fan (with_lengths i ls n) (formed_lengths s fan n f i ls (omega arith)) (cond before i (i + 1)) x e (place before) g
  where
    place : (before : Bool) → cond before i (i + 1) ≤ n.len
    place true = omega arith
    place false = omega arith

pub formed_new : (s fan parent : ℕ) (rows : List (List ℕ)) → 0 < s → Wide s rows → length rows ≤ fan → Formed s fan (new_node s fan parent rows)
formed_new s fan parent rows hs w h =
    let l : length (empty_slots s (fan - length rows)) ≡ fan - length rows = length-replicate (fan - length rows) (empty_slot s) in
    record { count = simp length-append (omega arith); wide = all_append (Long s) rows _ w (empty_wide s (fan - length rows) hs) }
