-- One node and its words: read and written, each is the other; and a run of slots written over the words is that run of slots
-- in the node. Assumes nothing.
use Rattle.std.specs.Prelude.{◌≡◌, refl, List, [], ◌∷◌, ◌++◌, length, get_or, take, drop}
use Rattle.std.proofs.Common.{sym, ap, ◌∙◌, append-nil, add-mul}
use Prim.Native.Nat.{ℕ, suc, ◌+◌, ◌-◌, ◌*◌, ◌≤◌}
use native.Mathlib.Omega.{arith}
use Rattle.model.specs.Lists.{part, put_at}
use Rattle.model.specs.Node.{Node, node, start, total, used, node_of, words_of, slots_from}
use Rattle.model_laws.specs.Lists.{rows_between}
use Rattle.model_laws.specs.Words.{part_end}
use Rattle.model_laws.specs.Slots.{Wide, flat, flat_append, length_flat, slots_length, slots_wide, slots_flat, slots_take, slots_drop, slots_of_law}

-- as many slots as the fan, each of s words
pub record Formed (s fan : ℕ) (n : Node) : Type 0 where
  pub count : length n.slots ≡ fan
  pub wide : Wide s n.slots

pub formed : (s fan : ℕ) (ws : List ℕ) → length ws ≡ 3 + fan * s → Formed s fan (node_of s fan ws)
unfolding node_of
formed s fan ws e = record { count = slots_length s fan 3 ws; wide = slots_wide s fan 3 ws (omega arith) }

pub length_words : (s fan : ℕ) (n : Node) → Formed s fan n → length (words_of n) ≡ 3 + fan * s
unfolding words_of
length_words s fan n f =
    let l : length (flat n.slots) ≡ fan * s = length_flat s n.slots f.wide ∙ ap (λ (k : ℕ). k * s) f.count in
    omega arith

-- words that are read and written back, and a node that is written and read back
head : (ws : List ℕ) → 3 ≤ length ws → ws ≡ get_or ws 0 0 ∷ get_or ws 1 0 ∷ get_or ws 2 0 ∷ drop 3 ws
head [] h = absurd (omega arith)
head (a ∷ []) h = absurd (omega arith)
head (a ∷ b ∷ []) h = absurd (omega arith)
head (a ∷ b ∷ c ∷ ws) h = refl

pub words_node : (s fan : ℕ) (ws : List ℕ) → length ws ≡ 3 + fan * s → words_of (node_of s fan ws) ≡ ws
unfolding node_of words_of
words_node s fan ws e = rw (slots_flat, part_end 3 (fan * s) ws (omega arith)) (sym (head ws (omega arith)))

pub node_words : (s fan : ℕ) (n : Node) → Formed s fan n → node_of s fan (words_of n) ≡ n
unfolding node_of words_of
node_words s fan n f =
    let h : List ℕ = n.len ∷ n.parent ∷ n.at ∷ [] in
    let a : slots_from s (length n.slots) 3 (h ++ (flat n.slots ++ [])) ≡ n.slots = slots_of_law s h n.slots [] f.wide in
    let b : slots_from s fan 3 (h ++ flat n.slots) ≡ n.slots = rw (append-nil, f.count) at a in
    ap (λ (l : List (List ℕ)). node n.len n.parent n.at l) b

-- the slots in use of a node that holds no more than it can
pub used_slots : (s fan : ℕ) (ws : List ℕ) → get_or ws 0 0 ≤ fan → used (node_of s fan ws) ≡ slots_from s (get_or ws 0 0) 3 ws
unfolding node_of
used_slots s fan ws h = slots_take s fan (get_or ws 0 0) 3 ws h

-- the lengths before the end are all lengths
pub start_all : (s fan v : ℕ) (ws : List ℕ) → start v fan (node_of s fan ws) ≡ total v (node_of s fan ws).slots
unfolding node_of
start_all s fan v ws = ap (total v) (slots_take s fan fan 3 ws (omega arith))

-- the words of the first i slots, of m slots from slot i on, and of all from slot i on
module _ (s fan i : ℕ) (ws : List ℕ) (e : length ws ≡ 3 + fan * s) where
  pub words_take : i ≤ fan → take (3 + i * s) ws ≡ get_or ws 0 0 ∷ get_or ws 1 0 ∷ get_or ws 2 0 ∷ flat (take i (slots_from s fan 3 ws))
  unfolding part
  words_take h =
      let f : 3 + i * s ≡ suc (suc (suc (i * s))) = omega arith in
      rw (slots_take s fan i 3 ws h, slots_flat, f) (ap (take (suc (suc (suc (i * s))))) (head ws (omega arith)))

  pub words_part : (m : ℕ) → i + m ≤ fan → part (3 + i * s) (m * s) ws ≡ flat (take m (drop i (slots_from s fan 3 ws)))
  words_part m h = rw (slots_drop s fan i 3 ws (omega arith), slots_take s (fan - i) m (3 + i * s) ws (omega arith), slots_flat)

  pub words_drop : i ≤ fan → drop (3 + i * s) ws ≡ flat (drop i (slots_from s fan 3 ws))
  words_drop h = rw (slots_drop s fan i 3 ws h, slots_flat) (sym (part_end (3 + i * s) ((fan - i) * s) ws (omega (arith, rows_between i fan s h))))

-- a run of slots written over those from slot i on
abbrev pub over : ℕ → List (List ℕ) → Node → Node
over i rows n = node n.len n.parent n.at (take i n.slots ++ (rows ++ drop (i + length rows) n.slots))

pub put_slots : (s fan i : ℕ) (rows : List (List ℕ)) (ws : List ℕ) → length ws ≡ 3 + fan * s → Wide s rows → i + length rows ≤ fan
    → put_at (3 + i * s) (flat rows) ws ≡ words_of (over i rows (node_of s fan ws))
unfolding put_at node_of words_of
put_slots s fan i rows ws e w h =
    let f : 3 + i * s + length (flat rows) ≡ 3 + (i + length rows) * s = omega (arith, length_flat s rows w, add-mul i (length rows) s) in
    rw (f, words_take s fan i ws e (omega arith), words_drop s fan (i + length rows) ws e h, flat_append, flat_append)
