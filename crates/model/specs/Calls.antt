-- Every public call of lib.rs as one definition on a tree's words: the refusals in document 01's order, then what the call does.
-- A refusal leaves head and areas as they were; 9 leaves the head. Assumes nothing.
use Rattle.model.specs.declared.number.LeafNo.{LeafNo}
use Rattle.std.specs.declared.cmp.Ordering.TheVariants.{Less, Equal, Greater}
use Rattle.std.specs.declared.cmp.Ordering.{Ordering}
use Rattle.model.specs.declared.way.Broken.{Broken}
use Rattle.model.specs.Numbered.{Numbered}
use Rattle.std.specs.Prelude.{Bool, cond, ◌&&◌, List, [], ◌∷◌, ◌++◌, ℕ, ◌+◌, get_or, set, ltb, leb, eqb, Ok, Err, Some, None, Option, Result, false}
use Rattle.model.specs.Lists.{Cause, refusal}
use Rattle.model.specs.Kind.{stride}
use Rattle.model.specs.declared.shape.Kind.{Kind}
use Rattle.model.specs.Row.{Answer, done, refused}
use Rattle.model.specs.Node.{Node, none, child, lengths, used, start, index_from, new_node, minus, wrap}
use Rattle.model.specs.State.{State, state, head_of, next_stamp, shape, node_at, put_node}
use Rattle.model.specs.Climb.{leaf_no, rank_up, steps_up, first_down, last_down, next_up}
use Rattle.model.specs.Locate.{served_by, from_root, effect_at, prepare_at}
use Rattle.model.specs.Place.{Change, change, with_finger, place, divide, replace, climb}
use Rattle.model.specs.Refuse.{shape_of, many_lines, bad_size, too_short, opening, stale, at_cursor, no_such_id, too_much, hollow_part, crossed_bounds, crossed_parts, past, full}
use Rattle.model.specs.declared.number.EntryId.{EntryId}
use Rattle.model.specs.declared.head.Cursor.{Cursor}
use Rattle.model.specs.declared.head.Finger.{Finger}
use Rattle.model.specs.declared.head.Head.{Head}
use Rattle.model.specs.Locate.{Search}

-- the state after a call, and its answer
pub record Reply (A : Type 0) : Type 0 where
  pub after : State
  pub answer : A

abbrev pub reply : {A : Type 0} → State → A → Reply A
reply s a = record { after = s; answer = a }

-- the answer where none of the causes applies, else the number of the first that does
abbrev pub unless : {A : Type 0} → List Cause → (ℕ → A) → A → A
unless cs refuse a = cond (eqb (refusal cs) 0) a (refuse (refusal cs))

-- a call that changes the tree: where a change meets 9, the head is as it was
abbrev pub settled : {A : Type 0} → State → Change → (ℕ → A) → A → Reply A
settled s r refuse a =
    cond (eqb r.number 0) (reply r.state a) (reply (state s.head r.state.leaves r.state.inners r.state.homes) (refuse r.number))

-- cursors bear the tree's stamp
abbrev pub cursor_at : ℕ → ℕ → ℕ → Cursor
cursor_at stamp k i = record { leaf = leaf_no k; slot = i; stamp = stamp }

abbrev pub entry_id : ℕ → EntryId
entry_id i = record { 0 = i }

abbrev pub leaf_at : Kind → State → Cursor → Node
leaf_at K s c = node_at (shape_of K s.head) c.leaf.0 s.leaves

abbrev pub slot_at : Kind → State → Cursor → List ℕ
slot_at K s c = get_or (leaf_at K s c).slots c.slot []

-- make and reset ------------------------------------------------------------------------------------------------------------------------

-- one leaf with the entry 0 and one inner node above it; all other words stay
unfoldable pub begun : Kind → ℕ → ℕ → ℕ → List ℕ → List ℕ → List ℕ → List ℕ → State
begun K fan limit stamp l ls xs hs =
    let g = shape (stride K) fan limit in
    let x : List ℕ = 0 ∷ l in
    state (head_of fan limit 0 1 1 1 1 stamp None) (put_node g 0 (new_node (stride K) fan 0 (x ∷ [])) ls) (put_node g 0 (new_node (stride K) fan none (x ∷ [])) xs) (set hs 0 0)

-- the sizes, which audit and count test too
abbrev pub area_causes : Kind → ℕ → ℕ → List ℕ → List ℕ → List ℕ → List Cause
area_causes K fan limit ls xs hs = bad_size fan limit ∷ too_short (shape (stride K) fan limit) limit ls xs hs ∷ []

abbrev pub make_causes : Kind → ℕ → ℕ → List ℕ → List ℕ → List ℕ → List ℕ → List Cause
make_causes K fan limit l ls xs hs = many_lines K l ∷ (area_causes K fan limit ls xs hs ++ crossed_bounds K l ∷ [])

-- the stamp is 1 at make; a refused make returns a head of zeros without finger
unfoldable pub make : Kind → ℕ → ℕ → List ℕ → List ℕ → List ℕ → List ℕ → Reply (Numbered (Unit {0}))
make K fan limit l ls xs hs =
    unless (make_causes K fan limit l ls xs hs) (λ n. reply (state (head_of 0 0 0 0 0 0 0 0 None) ls xs hs) (Err n)) (reply (begun K fan limit 1 l ls xs hs) (Ok tt))

-- reset counts one more, for its first entry
unfoldable pub reset : Kind → State → List ℕ → Reply (Numbered (Unit {0}))
reset K s l =
    let h = s.head in
    unless (make_causes K h.fan h.limit l s.leaves s.inners s.homes) (λ n. reply s (Err n))
    (reply (begun K h.fan h.limit (next_stamp h.stamp) l s.leaves s.inners s.homes) (Ok tt))

-- calls that read -------------------------------------------------------------------------------------------------------------------------

-- these two are given the head alone
unfoldable pub len : Head → Numbered ℕ
len h = unless (bad_size h.fan h.limit ∷ []) Err (Ok h.entries)

unfoldable pub is_empty : Head → Numbered Bool
is_empty h = unless (bad_size h.fan h.limit ∷ []) Err (Ok false)

abbrev pub first_of : ℕ → Result (Option LeafNo) Broken → Numbered Cursor
first_of stamp (Ok (Some k)) = Ok (cursor_at stamp k.0 0)
first_of stamp (Ok None) = Err 9
first_of stamp (Err _) = Err 9

unfoldable pub first : Kind → State → Numbered Cursor
first K s =
    let h = s.head in
    unless (opening K s) Err (first_of h.stamp (first_down (shape_of K h) h.levels h.root.0 s.inners))

abbrev pub next_of : ℕ → Result (Option LeafNo) Broken → Numbered (Option Cursor)
next_of stamp (Ok (Some k)) = Ok (Some (cursor_at stamp k.0 0))
next_of stamp (Ok None) = Ok None
next_of stamp (Err _) = Err 9

unfoldable pub next_after : Kind → State → Cursor → Numbered (Option Cursor)
next_after K s c =
    let h = s.head in
    let m = leaf_at K s c in
    unless (opening K s ++ at_cursor K s c) Err
    (cond (ltb (c.slot + 1) m.len) (Ok (Some (cursor_at h.stamp c.leaf.0 (c.slot + 1)))) (next_of h.stamp (next_up (shape_of K h) h.levels 0 m.parent m.at s.inners)))

unfoldable pub id : Kind → State → Cursor → Numbered EntryId
id K s c = unless (opening K s ++ at_cursor K s c) Err (Ok (entry_id (child (slot_at K s c))))

unfoldable pub entry_lengths : Kind → State → Cursor → Answer
entry_lengths K s c = unless (opening K s ++ at_cursor K s c) refused (done (lengths (slot_at K s c)))

abbrev pub standing_in : ℕ → ℕ → Option ℕ → Numbered Cursor
standing_in stamp k (Some i) = Ok (cursor_at stamp k i)
standing_in stamp k None = Err 9

-- the home of an entry is a leaf in use that holds it
unfoldable pub cursor : Kind → State → ℕ → Numbered Cursor
cursor K s i =
    let h = s.head in
    let k = get_or s.homes i 0 in
    let m = node_at (shape_of K h) k s.leaves in
    unless (opening K s ++ no_such_id s i ∷ []) Err
    (cond (ltb k h.leaves && leb m.len h.fan) (standing_in h.stamp k (index_from i 0 (used m))) (Err 9))

-- two lists of equally many steps, compared in order
unfoldable pub in_order : List ℕ → List ℕ → Numbered Ordering
in_order [] ys = Ok Equal
in_order (x ∷ xs) [] = Ok Equal
in_order (x ∷ xs) (y ∷ ys) = cond (ltb x y) (Ok Less) (cond (ltb y x) (Ok Greater) (in_order xs ys))

-- a path of no steps is broken
abbrev pub by_path : List ℕ → List ℕ → Numbered Ordering
by_path [] ys = Err 9
by_path (x ∷ xs) [] = Err 9
by_path (x ∷ xs) (y ∷ ys) = in_order (x ∷ xs) (y ∷ ys)

unfoldable pub path : Kind → State → Cursor → List ℕ
path K s c =
    let m = leaf_at K s c in
    steps_up (shape_of K s.head) s.head.levels m.parent m.at [] s.inners

unfoldable pub cmp : Kind → State → Cursor → Cursor → Numbered Ordering
cmp K s a b =
    unless (opening K s ++ (stale K s a ++ stale K s b)) Err
    (cond (eqb a.leaf.0 b.leaf.0) (in_order (a.slot ∷ []) (b.slot ∷ [])) (by_path (path K s a) (path K s b)))

abbrev pub rank_of : Result ℕ Broken → Numbered ℕ
rank_of (Ok n) = Ok (wrap n)
rank_of (Err _) = Err 9

unfoldable pub entry_to_char_index : Kind → State → ℕ → Cursor → Numbered ℕ
entry_to_char_index K s v c =
    let h = s.head in
    let m = leaf_at K s c in
    unless (opening K s ++ at_cursor K s c) Err
    (rank_of (rank_up (shape_of K h) v h.levels m.parent m.at (start v c.slot m) s.inners))

-- lookups ---------------------------------------------------------------------------------------------------------------------------------

-- the finger found is kept
abbrev pub hit : State → Finger → ℕ → Reply (Numbered (Cursor × ℕ × ℕ × ℕ))
hit s f offset =
    reply (state (with_finger (Some f) s.head) s.leaves s.inners s.homes)
    (Ok (cursor_at s.head.stamp f.leaf f.slot, offset, effect_at f, prepare_at f))

-- 5: position at or past the view's total, which the root then doesn't hold
abbrev pub by_search : State → Search → Reply (Numbered (Cursor × ℕ × ℕ × ℕ))
by_search s (Ok (Some (f, offset))) = hit s f offset
by_search s (Ok None) = reply s (Err 5)
by_search s (Err _) = reply s (Err 9)

-- first the finger, then from the root
abbrev pub by_finger : State → Search → Search → Reply (Numbered (Cursor × ℕ × ℕ × ℕ))
by_finger s (Ok (Some (f, offset))) again = hit s f offset
by_finger s (Ok None) again = by_search s again
by_finger s (Err _) again = reply s (Err 9)

unfoldable pub locate : Kind → State → ℕ → ℕ → Reply (Numbered (Cursor × ℕ × ℕ × ℕ))
locate K s v index =
    let h = s.head in
    let g = shape_of K h in
    unless (opening K s) (λ n. reply s (Err n))
    (by_finger s (served_by v K.effect g h.finger h.leaves index s.leaves)
    (from_root v K.effect g h.levels h.root.0 h.leaves index s.leaves s.inners))

-- `locate` less the two positions
abbrev pub less_positions : Numbered (Cursor × ℕ × ℕ × ℕ) → Numbered (Cursor × ℕ)
less_positions (Ok (c, offset, effect, prepare)) = Ok (c, offset)
less_positions (Err n) = Err n

unfoldable pub char_index_to_entry : Kind → State → ℕ → ℕ → Reply (Numbered (Cursor × ℕ))
char_index_to_entry K s v index = let r = locate K s v index in reply r.after (less_positions r.answer)

-- calls that change -------------------------------------------------------------------------------------------------------------------------

-- the new lengths are written, and their difference is added on the way up
abbrev pub resized : Kind → State → Cursor → List ℕ → Change × ℕ
resized K s c l =
    let g = shape_of K s.head in
    climb g K.effect (minus l (lengths (slot_at K s c))) (replace g s c.leaf.0 c.slot l)

abbrev pub resize_causes : Kind → State → Cursor → List ℕ → List Cause
resize_causes K s c l = many_lines K l ∷ (opening K s ++ at_cursor K s c ++ crossed_bounds K l ∷ past K s (lengths (slot_at K s c)) l ∷ [])

unfoldable pub set_lengths : Kind → State → Cursor → List ℕ → Reply (Numbered (Unit {0}))
set_lengths K s c l = unless (resize_causes K s c l) (λ n. reply s (Err n)) (settled s (resized K s c l).0 Err (Ok tt))

unfoldable pub update : Kind → State → Cursor → List ℕ → Reply (Numbered ℕ)
update K s c l =
    let r = resized K s c l in
    unless (resize_causes K s c l) (λ n. reply s (Err n)) (settled s r.0 Err (Ok r.1))

-- the slot before which an entry is inserted; the end is the slot behind the last in use
abbrev pub end_of : Kind → State → Result (Option LeafNo) Broken → Change
end_of K s (Ok (Some k)) = change 0 s k.0 (node_at (shape_of K s.head) k.0 s.leaves).len
end_of K s (Ok None) = change 9 s 0 0
end_of K s (Err _) = change 9 s 0 0

abbrev pub aim : Kind → State → Option Cursor → Change
aim K s (Some c) = change 0 s c.leaf.0 c.slot
aim K s None = end_of K s (last_down (shape_of K s.head) s.head.levels s.head.root.0 s.inners)

abbrev pub placed : Kind → State → Option Cursor → List ℕ → Change × ℕ
placed K s t l =
    let g = shape_of K s.head in
    let r = aim K s t in
    climb g K.effect l (cond (eqb r.number 0) (place g s r.leaf r.slot l) r)

abbrev pub target_causes : Kind → State → Option Cursor → List Cause
target_causes K s (Some c) = at_cursor K s c
target_causes K s None = []

-- room is why one entry more has no space: the tree holds its limit, or, with seats, their rules
abbrev pub insert_causes : Kind → List Cause → State → Option Cursor → List ℕ → List Cause
insert_causes K room s t l = many_lines K l ∷ (opening K s ++ target_causes K s t ++ crossed_bounds K l ∷ past K s [] l ∷ room)

unfoldable pub insert_by : Kind → List Cause → State → Option Cursor → List ℕ → Reply (Numbered (EntryId × ℕ))
insert_by K room s t l =
    let r = placed K s t l in
    unless (insert_causes K room s t l) (λ n. reply s (Err n)) (settled s r.0 Err (Ok (entry_id s.head.entries, r.1)))

abbrev pub insert : Kind → State → Option Cursor → List ℕ → Reply (Numbered (EntryId × ℕ))
insert K s t l = insert_by K (full s ∷ []) s t l

-- what a split answers: n is the count before, so the new id; slot i of leaf k holds the first of the two entries; both cursors bear the new stamp
abbrev pub divided_at : ℕ → ℕ → ℕ → ℕ → Numbered (EntryId × Cursor × Cursor)
divided_at n stamp k i = Ok (entry_id n, cursor_at stamp k i, cursor_at stamp k (i + 1))

abbrev pub split_causes : Kind → List Cause → State → Cursor → List ℕ → List Cause
split_causes K room s c l = many_lines K l ∷ (opening K s ++ at_cursor K s c ++ too_much K l (lengths (slot_at K s c)) ∷ hollow_part K l (lengths (slot_at K s c)) ∷ crossed_parts K l (lengths (slot_at K s c)) ∷ room)

unfoldable pub split_by : Kind → List Cause → State → Cursor → List ℕ → Bool → Reply (Numbered (EntryId × Cursor × Cursor))
split_by K room s c l flag =
    let r = divide (shape_of K s.head) flag s c.leaf.0 c.slot l in
    unless (split_causes K room s c l) (λ m. reply s (Err m))
    (settled s r Err (divided_at s.head.entries (next_stamp s.head.stamp) r.leaf r.slot))

abbrev pub split_entry : Kind → State → Cursor → List ℕ → Bool → Reply (Numbered (EntryId × Cursor × Cursor))
split_entry K s c l flag = split_by K (full s ∷ []) s c l flag
