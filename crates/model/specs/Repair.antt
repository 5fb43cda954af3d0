-- Repair (document 02, CR 13): what it trusts, what it answers, and what is promised of it. Hold `Agrees`, `changes`, `Mends` and `Repairs` beside the
-- request; of `repair` only the order of its causes has to be read, for the rest follows from what is promised. Assumes nothing.
use Rattle.model.specs.Numbered.{Numbered}
use Rattle.std.specs.Prelude.{◌≡◌, ◌≢◌, Bool, cond, ◌&&◌, List, [], ◌∷◌, map, ℕ, ◌+◌, ◌*◌, ◌<◌, ◌≤◌, length, get_or, eqb, Ok, Err, true}
use Rattle.model.specs.Lists.{refusal}
use Rattle.model.specs.Kind.{stride}
use Rattle.model.specs.declared.shape.Kind.{Kind}
use Rattle.model.specs.Node.{child, used}
use Rattle.model.specs.State.{State, state}
use Rattle.model.specs.Sound.{Sound, shape_in, leaf_in, inner_in}
use Rattle.model.specs.Answer.{number_answer}
use Rattle.model.specs.Calls.{Reply, reply, unless, area_causes}
use Rattle.model.specs.Seats.{Fair, is_fair}
use Rattle.model.specs.SeatedCalls.{audit_seated}
use Rattle.model.specs.declared.seats.Seats.{Seats}
use Rattle.model.specs.Mend.{no_finger, mend, is_fit}

-- b agrees with what is trusted of a: the head but for its finger, each node's len and child numbers in use, and the lengths in leaf slots; s is the
-- words of a slot
pub record Agrees (s : ℕ) (a b : State) : Type 0 where
  pub head : no_finger b.head ≡ no_finger a.head
  pub leaf_len : (k : ℕ) → k < a.head.leaves → (leaf_in s b k).len ≡ (leaf_in s a k).len
  pub leaf_slots_law : (k : ℕ) → k < a.head.leaves → used (leaf_in s b k) ≡ used (leaf_in s a k)
  pub inner_len : (k : ℕ) → k < a.head.inners → (inner_in s b k).len ≡ (inner_in s a k).len
  pub inner_children : (k : ℕ) → k < a.head.inners → map child (used (inner_in s b k)) ≡ map child (used (inner_in s a k))

-- a sound tree with fair seats that agrees with what is trusted of t and of its seats b, every share and charge; a tree without seats has `no_seats`
pub record Agreeing (K : Kind) (t : State) (b : Seats) : Type 0 where
  pub tree : State
  pub seats : Seats
  pub sound : Sound K tree
  pub fair : Fair tree.head.limit tree.head.entries seats
  pub agrees : Agrees (stride K) t tree
  pub seated : seats ≡ b

-- b has the nodes in use and the homes of a
pub record Same (s : ℕ) (a b : State) : Type 0 where
  pub leaves : (k : ℕ) → k < a.head.leaves → leaf_in s b k ≡ leaf_in s a k
  pub inners : (k : ℕ) → k < a.head.inners → inner_in s b k ≡ inner_in s a k
  pub homes : (id : ℕ) → id < a.head.entries → get_or b.homes id 0 ≡ get_or a.homes id 0

-- how many words of two areas differ
abbrev pub apart : ℕ → ℕ → ℕ
apart x y = cond (eqb x y) 0 1

unfoldable pub differ : List ℕ → List ℕ → ℕ
differ [] ys = 0
differ (x ∷ xs) [] = 0
differ (x ∷ xs) (y ∷ ys) = apart x y + differ xs ys

unfoldable pub changes : State → State → ℕ
changes a b = differ a.leaves b.leaves + differ a.inners b.inners + differ a.homes b.homes

-- 21, directly after 2, where the trusted words are those of no sound tree
abbrev pub mend_if : Kind → Bool → State → Reply (Numbered ℕ)
mend_if K b t = cond b (reply (mend (stride K) t) (Ok (changes t (mend (stride K) t)))) (reply t (Err 21))

abbrev pub sizes_in : Kind → State → ℕ
sizes_in K t = refusal (area_causes K t.head.fan t.head.limit t.leaves t.inners t.homes)

-- fair: whether the seats' words are those of a sound tree. The seats stay as they are
unfoldable pub repair_if : Kind → Bool → State → Reply (Numbered ℕ)
repair_if K fair t = unless (area_causes K t.head.fan t.head.limit t.leaves t.inners t.homes) (λ n. reply t (Err n)) (mend_if K (is_fit K t && fair) t)

abbrev pub repair : Kind → State → Seats → Reply (Numbered ℕ)
repair K t b = repair_if K (is_fair t.head.limit t.head.entries b) t

-- r is t put right
pub record Mends (K : Kind) (t : State) (b : Seats) (r : State) : Type 0 where
  pub audited : audit_seated K r b ≡ Ok true
  pub agrees : Agrees (stride K) t r
  pub head : r.head ≡ no_finger t.head
  -- there was no choice
  pub only : (c : State) → Sound K c → Agrees (stride K) t c → Same (stride K) r c
  -- everything else stays: nodes and homes out of use, and what lies behind them
  pub leaf_words : (p : ℕ) → t.head.leaves * (shape_in (stride K) t).size ≤ p → get_or r.leaves p 0 ≡ get_or t.leaves p 0
  pub inner_words : (p : ℕ) → t.head.inners * (shape_in (stride K) t).size ≤ p → get_or r.inners p 0 ≡ get_or t.inners p 0
  pub home_words : (p : ℕ) → t.head.entries ≤ p → get_or r.homes p 0 ≡ get_or t.homes p 0
  pub leaf_area : length r.leaves ≡ length t.leaves
  pub inner_area : length r.inners ≡ length t.inners
  pub home_area : length r.homes ≡ length t.homes

-- what is promised of repair on any words, sound or not
pub record Repairs (K : Kind) (t : State) (b : Seats) : Type 0 where
  -- 1 and 2 come first, and nothing changes
  pub sizes : sizes_in K t ≢ 0 → repair K t b ≡ reply t (Err (sizes_in K t))
  -- 21 exactly if no sound tree agrees with what is trusted, and nothing changes
  pub refused : sizes_in K t ≡ 0 → (Agreeing K t b → ⊥) → repair K t b ≡ reply t (Err 21)
  pub exactly : (number_answer (repair K t b).answer).number ≡ 21 → Agreeing K t b → ⊥
  -- else the tree is put right, and the answer is the number of area words that differ from before
  pub mended : sizes_in K t ≡ 0 → Agreeing K t b → Mends K t b (repair K t b).after
  pub counted : sizes_in K t ≡ 0 → Agreeing K t b → (repair K t b).answer ≡ Ok (changes t (repair K t b).after)
  -- which is 0 for a sound tree
  pub sound : Sound K t → Fair t.head.limit t.head.entries b → repair K t b ≡ reply (state (no_finger t.head) t.leaves t.inners t.homes) (Ok 0)
  pub nine : (number_answer (repair K t b).answer).number ≢ 9
