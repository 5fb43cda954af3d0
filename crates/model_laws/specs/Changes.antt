-- Each change of a node's words, as the code makes it, is the change of the node. Assumes nothing.
use Rattle.std.specs.Prelude.{◌≡◌, refl}
use Rattle.std.proofs.Common.{sym, ◌∙◌, zero-mul, add-zero, add-one, length-drop, take_at}
use Rattle.std.proofs.Math.Path.{ap}
use mathlib.Core.List.{List, [], ◌∷◌, ◌++◌, append-nil, flat_map, zip_with}
use Prim.Native.Nat.{ℕ, ◌+◌, ◌-◌, ◌*◌, ◌<◌, ◌≤◌}
use native.Mathlib.Omega.{arith}
use Rattle.std.proofs.Math.ListN.{length, get_or, take, drop, set, length-replicate, drop_of_length-le}
use Rattle.std.proofs.Math.Seq.{length-take-le, set_split}
use Rattle.model.specs.Lists.{All, part, put_at}
use Rattle.model.specs.Node.{node, node_of, words_of, slots_from, child, lengths_at, with_lengths, inserted, empty_slot, empty_slots, new_node, adopted}
use Rattle.model_laws.specs.Lists.{length_zip, all_take, all_drop, rows_between, row_end}
use Rattle.model_laws.specs.Words.{length_part, part_front, put_prev, put_keep}
use Rattle.model_laws.specs.Slots.{Long, Wide, flat, flat_one, length_flat, slots_length, slots_wide, slots_at, column}
use Rattle.model_laws.specs.Nodes.{formed, words_node, node_words, words_part, over, put_slots}
use Rattle.model_laws.specs.Formed.{kept, empty_wide, formed_over}

module _ (s fan : ℕ) (ws : List ℕ) (e : length ws ≡ 3 + fan * s) where
  pub adopt_words : (parent at : ℕ) → set (set ws 1 parent) 2 at ≡ words_of (adopted parent at (node_of s fan ws))
  unfolding node_of words_of
  adopt_words parent at = ap (λ (l : List ℕ). set (set l 1 parent) 2 at) (sym (words_node s fan ws e))

  -- words that are slots of a node in their turn
  pub slot_words : (i m : ℕ) → i + m ≤ fan → Wide s (take m (drop i (slots_from s fan 3 ws)))
  slot_words i m h = all_take (Long s) m _ (all_drop (Long s) i _ (slots_wide s fan 3 ws (omega arith)))

  pub insert_words : (i : ℕ) (x : List ℕ) → length x ≡ s → i ≤ get_or ws 0 0 → get_or ws 0 0 < fan
      → set (put_at (3 + i * s) x (put_at (3 + i * s + s) (part (3 + i * s) (3 + get_or ws 0 0 * s - (3 + i * s)) ws) ws)) 0 (get_or ws 0 0 + 1) ≡ words_of (inserted i x (node_of s fan ws))
  unfolding node_of words_of inserted flat_map All
  insert_words i x ex hi hl =
      let rows : List (List ℕ) = take (get_or ws 0 0 - i) (drop i (slots_from s fan 3 ws)) in
      let q : 3 + get_or ws 0 0 * s - (3 + i * s) ≡ (get_or ws 0 0 - i) * s = omega (arith, rows_between i (get_or ws 0 0) s hi) in
      let p : part (3 + i * s) ((get_or ws 0 0 - i) * s) ws ≡ flat rows = words_part s fan i ws e (get_or ws 0 0 - i) (omega arith) in
      let lr : length rows ≡ get_or ws 0 0 - i = length-take-le (get_or ws 0 0 - i) _ (rw (length-drop, slots_length) (omega arith)) in
      let lf : length (flat rows) ≡ (get_or ws 0 0 - i) * s = length_flat s rows (slot_words i (get_or ws 0 0 - i) (omega arith)) ∙ ap (λ (k : ℕ). k * s) lr in
      let room : 3 + i * s + s + length (flat rows) ≤ length ws = omega (arith, rows_between i (get_or ws 0 0) s hi, row_end (get_or ws 0 0) fan s hl) in
      let d : i + length (x ∷ rows) ≡ get_or ws 0 0 + 1 = omega arith in
      rw (q, p, put_prev (3 + i * s) (3 + i * s + s) x (flat rows) ws (omega arith) room)
      (ap (λ (l : List ℕ). set l 0 (get_or ws 0 0 + 1)) (put_slots s fan i (x ∷ rows) ws e (ex, slot_words i (get_or ws 0 0 - i) (omega arith)) (omega arith))
      ∙ rw d)

  pub lengths_words : (i : ℕ) (ls : List ℕ) → i < fan → length ls + 1 ≡ s → put_at (3 + i * s + 1) ls ws ≡ words_of (with_lengths i ls (node_of s fan ws))
  unfolding node_of words_of All
  lengths_words i ls h el =
      let c : child (get_or (slots_from s fan 3 ws) i []) ≡ get_or ws (3 + i * s) 0 = column s fan i 3 0 ws h (omega arith) ∙ ap (λ (k : ℕ). get_or ws k 0) (add-zero (3 + i * s)) in
      let x : List ℕ = get_or ws (3 + i * s) 0 ∷ ls in
      let f : set (slots_from s fan 3 ws) i x ≡ take i (slots_from s fan 3 ws) ++ x ∷ drop (i + 1) (slots_from s fan 3 ws) = rw (add-one, set_split (slots_from s fan 3 ws) i x (rw slots_length h)) in
      let room : 3 + i * s + 1 + length ls ≤ length ws = omega (arith, row_end i fan s h) in
      put_keep (3 + i * s) ls ws room
      ∙ ap (λ (l : List ℕ). put_at (3 + i * s) l ws) (sym (flat_one x))
      ∙ put_slots s fan i (x ∷ []) ws e (omega arith, tt) (omega arith)
      ∙ rw (c, f)

  -- the lengths in slot i
  pub lengths_part : (i : ℕ) → 0 < s → i < fan → lengths_at i (slots_from s fan 3 ws) ≡ part (3 + i * s + 1) (s - 1) ws
  lengths_part i hs h =
      let t : s ≡ s - 1 + 1 = omega arith in
      let a : get_or (slots_from s fan 3 ws) i [] ≡ part (3 + i * s) s ws = slots_at s fan i 3 ws h in
      let b : part (3 + i * s) (s - 1 + 1) ws ≡ get_or ws (3 + i * s) 0 ∷ part (3 + i * s + 1) (s - 1) ws = part_front (3 + i * s) (s - 1) ws (omega (arith, row_end i fan s h)) in
      ap (drop 1) (a ∙ ap (λ (k : ℕ). part (3 + i * s) k ws) t ∙ b)

  pub length_lengths : (i : ℕ) → 0 < s → i < fan → length (lengths_at i (node_of s fan ws).slots) + 1 ≡ s
  unfolding node_of
  length_lengths i hs h = rw (lengths_part i hs h, length_part (3 + i * s + 1) (s - 1) ws (omega (arith, row_end i fan s h))) (omega arith)

  -- each length in slot i changed by one of ys
  pub change_words : (f : ℕ → ℕ → ℕ) (i : ℕ) (ys : List ℕ) → i < fan → length ys + 1 ≡ s
      → put_at (3 + i * s + 1) (zip_with f (part (3 + i * s + 1) (length ys) ws) ys) ws ≡ words_of (with_lengths i (zip_with f (lengths_at i (node_of s fan ws).slots) ys) (node_of s fan ws))
  unfolding node_of
  change_words f i ys h ey =
      let t : s - 1 ≡ length ys = omega arith in
      let a : lengths_at i (slots_from s fan 3 ws) ≡ part (3 + i * s + 1) (length ys) ws = rw t at (lengths_part i (omega arith) h) in
      let l : length (part (3 + i * s + 1) (length ys) ws) ≡ length ys = length_part (3 + i * s + 1) (length ys) ws (omega (arith, row_end i fan s h)) in
      let z : length (zip_with f (part (3 + i * s + 1) (length ys) ws) ys) ≡ length ys = length_zip f (part (3 + i * s + 1) (length ys) ws) ys l ∙ l in
      lengths_words i (zip_with f (part (3 + i * s + 1) (length ys) ws) ys) h (omega arith) ∙ ap (λ (ls : List ℕ). words_of (with_lengths i (zip_with f ls ys) (node_of s fan ws))) (sym a)

  -- the slots from slot m on are emptied, and the number of slots in use is written; then the parent and the place
  pub lower_words : (m : ℕ) → 0 < s → m ≤ fan
      → set (put_at (3 + m * s) (flat (empty_slots s (fan - m))) ws) 0 m ≡ words_of (kept s fan m (get_or ws 1 0) (get_or ws 2 0) (node_of s fan ws))
  unfolding node_of words_of
  lower_words m hs h =
      let le : length (empty_slots s (fan - m)) ≡ fan - m = length-replicate (fan - m) (empty_slot s) in
      let d : drop (m + length (empty_slots s (fan - m))) (slots_from s fan 3 ws) ≡ [] = drop_of_length-le (slots_from s fan 3 ws) {i = m + length (empty_slots s (fan - m))} (rw slots_length (omega arith)) in
      ap (λ (l : List ℕ). set l 0 m) (put_slots s fan m (empty_slots s (fan - m)) ws e (empty_wide s (fan - m) hs) (omega arith)) ∙ rw (d, append-nil)

  pub keep_words : (m parent at : ℕ) → 0 < s → m ≤ fan
      → set (set (set (put_at (3 + m * s) (flat (empty_slots s (fan - m))) ws) 0 m) 1 parent) 2 at ≡ words_of (kept s fan m parent at (node_of s fan ws))
  unfolding node_of words_of
  keep_words m parent at hs h = ap (λ (l : List ℕ). set (set l 1 parent) 2 at) (lower_words m hs h)

-- slots written from the first on, of which the node keeps those alone: a new node
pub new_node_law : (s fan parent : ℕ) (rows : List (List ℕ)) (ws now : List ℕ) → length ws ≡ 3 + fan * s → Wide s rows → length rows ≤ fan → now ≡ put_at 3 (flat rows) ws
    → kept s fan (length rows) parent 0 (node_of s fan now) ≡ new_node s fan parent rows
new_node_law s fan parent rows ws now e w h en =
    let z : 3 + 0 * s ≡ 3 = omega (arith, zero-mul s) in
    let a : now ≡ words_of (over 0 rows (node_of s fan ws)) = en ∙ rw z at (put_slots s fan 0 rows ws e w (omega arith)) in
    let k = formed_over s fan (node_of s fan ws) (formed s fan ws e) 0 rows w (omega arith) in
    ap (kept s fan (length rows) parent 0) (ap (node_of s fan) a ∙ node_words s fan (over 0 rows (node_of s fan ws)) k)
    ∙ ap (λ (l : List (List ℕ)). node (length rows) parent 0 (l ++ empty_slots s (fan - length rows))) (take_at rows _ (length rows) refl)
