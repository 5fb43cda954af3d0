-- What a call leaves where it is refused (document 01, demand 1), on any words, sound or not: a number other than 0 and 9 leaves the tree,
-- 9 leaves the head, and every area is as long as it was in any case. Assumes nothing.
use Rattle.model.specs.declared.number.LeafNo.{LeafNo}
use Rattle.model.specs.declared.number.EntryId.{EntryId}
use Rattle.model.specs.declared.way.Broken.{Broken}
use Rattle.model.specs.Numbered.{Numbered}
use Rattle.std.specs.Prelude.{◌≡◌, true, false, cond, ◌||◌, ℕ, ◌+◌, ◌-◌, ◌*◌, ◌^◌, ◌<◌, eqb, Ok, Err, Some, None, Option, Result}
use Rattle.std.proofs.Math.Path.{refl, ap}
use Rattle.std.proofs.Common.{◌∙◌}
use Rattle.std.proofs.Math.Bool.{Bool}
use mathlib.Core.List.{List, [], ◌∷◌, ◌++◌}
use native.Mathlib.Omega.{arith}
use Rattle.std.proofs.Math.Dec.{ltb, leb}
use Rattle.std.proofs.Math.ListN.{length, length-set}
use borrow.Author.Tests.{ltb-false, leb-false, eqb-true, eqb-false, eq-eqb, lt-leb, le-ltb}
use Rattle.model.specs.Kind.{stride, too_many_lines}
use Rattle.model.specs.declared.shape.Kind.{Kind}
use Rattle.model.specs.Lists.{Cause, refusal, All}
use Rattle.model.specs.Node.{none, child, lengths, new_node, minus, wrap}
use Rattle.model.specs.State.{State, state, head_of, next_stamp, shape, node_at}
use Rattle.model.specs.Climb.{last_down}
use Rattle.model.specs.Locate.{served_by, from_root, effect_at, prepare_at}
use Rattle.model.specs.Place as place
use Rattle.model.specs.Place.{Change}
use Rattle.model.specs.Grow.{areas}
use Rattle.model.specs.Answer.{outcome_answer, number_answer, selected_answer, located_answer, inserted_answer, divided_answer}
use Rattle.model.specs.Refuse.{shape_of, many_lines, opening, at_cursor, too_much, hollow_part, crossed_bounds, crossed_parts, past, full}
use Rattle.model.specs.Row as row
use Rattle.model.specs.Row.{Call, Answer, Moved, no_entry, overlong}
use Rattle.model.specs.ById as by_id
use Rattle.model.specs.ById.{with_cursor, with_target, told, tree_move, tree_step}
use Rattle.model.specs.Calls as calls
use Rattle.model.specs.Calls.{Reply}
use Rattle.model.specs.Promise.{Words, InWords, Leaves, Refusals, Made, Demand1}
use Rattle.model.specs.declared.shape.Shape.{Shape}
use Rattle.model.specs.declared.head.Cursor.{Cursor}
use Rattle.model.specs.declared.head.Finger.{Finger}
use Rattle.model.specs.Locate.{Search}
use Rattle.model_laws.specs.Lists.{length_zip}
use Rattle.model_laws.specs.Lens.{by_test, Roomy}
use Rattle.model_laws.specs.Formed.{formed_new}
use Rattle.model_theory.specs.CallOpen.{passed, clear}
use Rattle.model_theory.specs.CallMake.{Sizes, sizes_of, level_made, nodes_least}
use Rattle.model_theory.specs.AnyFixed.{fixes}
use Rattle.model_theory.specs.AnyBare.{bares}
use Rattle.model_theory.specs.CallPrint.{print_leaves}
use Rattle.model_theory.specs.AnySearch.{SlotInUse, Finds, held_finds, root_finds}
use Rattle.model_theory.specs.AnyLengths.{KeepsLengths, RoomyInUse, put_leaf, put_inner, place_left, divide_left, replace_left, climb_left, leaf_slot}

-- the id that a split answers by id, and its cursors: the same number
pub id_number : (a : Numbered (EntryId × Cursor × Cursor)) → (by_id.divided_id_answer a).number ≡ (divided_answer a).number
id_number (Ok (i, a, b)) = refl
id_number (Err n) = refl

pub unmoved : (n : ℕ) (s : State) → Leaves n s s
unmoved n s = record { refused = λ a b. refl; broken = λ e. refl; leaves = refl; inners = refl; homes = refl }

-- a call that is done
finished : (n : ℕ) (s t : State) → n ≡ 0 → length t.leaves ≡ length s.leaves → length t.inners ≡ length s.inners → length t.homes ≡ length s.homes → Leaves n s t
finished n s t z a b c = record { refused = λ d e. absurd (d z); broken = λ e. absurd (omega arith); leaves = a; inners = b; homes = c }

-- what the causes leave -------------------------------------------------------------------------------------------------------------------

none_more : (cs ds : List Cause) → refusal cs ≡ 0 → refusal ds ≡ 0 → refusal (cs ++ ds) ≡ 0
unfolding refusal
none_more [] ds e h = h
none_more (a ∷ cs) ds e h = go a.applies e (none_more cs ds)
  where
    go : (b : Bool) → cond b a.number (refusal cs) ≡ 0 → (refusal cs ≡ 0 → refusal ds ≡ 0 → refusal (cs ++ ds) ≡ 0) → cond b a.number (refusal (cs ++ ds)) ≡ 0
    go true q i = q
    go false q i = i q h

-- the causes behind the first
few : (K : Kind) (l : List ℕ) (cs : List Cause) → refusal (many_lines K l ∷ cs) ≡ 0 → refusal cs ≡ 0
few K l cs e = (clear 10 (too_many_lines K l) cs (λ z. omega arith) e).1

neither : (a b : Bool) → (a || b) ≡ false → (a ≡ false) × (b ≡ false)
neither true b e = absurd (let z : ◌≡◌ {A = ℕ} 0 1 = cc in omega arith)
neither false b e = (refl, e)

module _ (K : Kind) (s : State) where
  abbrev g : Shape
  g = shape_of K s.head

  -- a call past its opening
  opened : (cs : List Cause) → refusal (opening K s ++ cs) ≡ 0 → RoomyInUse (shape_of K s.head) s × (refusal cs ≡ 0)
  unfolding opening
  opened cs e =
      let h = s.head in
      let a = clear 1 (ltb h.fan 4 || ltb 32 h.fan || ltb h.limit 1 || ltb 65536 h.limit) _ (λ z. omega arith) e in
      let b = clear 2 (ltb (length s.leaves) (g.nodes * g.size) || ltb (length s.inners) (g.nodes * g.size) || ltb (length s.homes) h.limit) _ (λ z. omega arith) a.1 in
      let c = clear 9 (leb g.nodes h.root.0 || ltb h.levels 1 || ltb 15 h.levels || ltb g.nodes h.leaves || ltb g.nodes h.inners || ltb h.limit h.entries) cs (λ z. omega arith) b.1 in
      let short = neither (ltb (length s.leaves) (g.nodes * g.size)) (ltb (length s.inners) (g.nodes * g.size)) (neither (ltb (length s.leaves) (g.nodes * g.size) || ltb (length s.inners) (g.nodes * g.size)) (ltb (length s.homes) h.limit) b.0).0 in
      let far : Bool = leb g.nodes h.root.0 || ltb h.levels 1 || ltb 15 h.levels in
      let inner = neither (far || ltb g.nodes h.leaves) (ltb g.nodes h.inners) (neither (far || ltb g.nodes h.leaves || ltb g.nodes h.inners) (ltb h.limit h.entries) c.0).0 in (
        record {
          roomy = record { words = refl; columns = omega arith; slots = ltb-false h.fan 4 (neither (ltb h.fan 4) (ltb 32 h.fan) (neither (ltb h.fan 4 || ltb 32 h.fan) (ltb h.limit 1) (neither (ltb h.fan 4 || ltb 32 h.fan || ltb h.limit 1) (ltb 65536 h.limit) a.0).0).0).0; leaves = ltb-false (length s.leaves) (g.nodes * g.size) short.0; inners = ltb-false (length s.inners) (g.nodes * g.size) short.1 };
          leaf_count = ltb-false g.nodes h.leaves (neither far (ltb g.nodes h.leaves) inner.0).1;
          inner_count = ltb-false g.nodes h.inners inner.1;
        },
        c.1,
      )

  -- and past its cursor
  record Current (c : Cursor) : Type 0 where
    leaf : c.leaf.0 < s.head.leaves
    slot : c.slot < s.head.fan

  current_of : (c : Cursor) (cs : List Cause) → refusal (at_cursor K s c ++ cs) ≡ 0 → Current c
  current_of c cs e =
      let n = (node_at g c.leaf.0 s.leaves).len in
      let a = clear 3 _ _ (λ z. omega arith) e in
      let b = clear 13 (leb s.head.leaves c.leaf.0) _ (λ z. omega arith) a.1 in
      let d = clear 14 (leb n c.slot) _ (λ z. omega arith) b.1 in
      let o = clear 9 (ltb s.head.fan n) cs (λ z. omega arith) d.1 in
      record { leaf = leb-false s.head.leaves c.leaf.0 b.0; slot = (let x = leb-false n c.slot d.0 in let y = ltb-false s.head.fan n o.0 in omega arith) }

-- calls that change -----------------------------------------------------------------------------------------------------------------------

module _ {A : Type 0} (f : A → Answer) (refuse : ℕ → A) (told : (n : ℕ) → (f (refuse n)).number ≡ n) where
  unless_leaves : (s : State) (cs : List Cause) (r : Reply A) → (refusal cs ≡ 0 → Leaves (f r.answer).number s r.after)
      → Leaves (f (calls.unless cs (λ n. calls.reply s (refuse n)) r).answer).number s (calls.unless cs (λ n. calls.reply s (refuse n)) r).after
  unless_leaves s cs r h = go (eqb (refusal cs) 0) refl
    where
      go : (b : Bool) → eqb (refusal cs) 0 ≡ b → Leaves (f (calls.unless cs (λ n. calls.reply s (refuse n)) r).answer).number s (calls.unless cs (λ n. calls.reply s (refuse n)) r).after
      go true e = rw e (h (eqb-true _ _ e))
      go false e = rw e (unmoved (f (refuse (refusal cs))).number s)

  settled_leaves : (s : State) (r : Change) (a : A) → (f a).number ≡ 0 → KeepsLengths s r.number r.state
      → Leaves (f (calls.settled s r refuse a).answer).number s (calls.settled s r refuse a).after
  settled_leaves s r a z o = go (eqb r.number 0) refl
    where
      go : (b : Bool) → eqb r.number 0 ≡ b → Leaves (f (calls.settled s r refuse a).answer).number s (calls.settled s r refuse a).after
      go true e = rw e (finished (f a).number s r.state z o.leaves o.inners o.homes)
      go false e = rw e (record {
        refused = λ d n. absurd (n (told r.number ∙ o.ends (eqb-false r.number 0 e)));
        broken = λ q. refl;
        leaves = o.leaves;
        inners = o.inners;
        homes = o.homes;
      })

-- make, and every call by cursor that leaves a tree: the others only read, and give none back
module _ (K : Kind) (s : State) where
  -- one leaf and one inner node are written
  begun_spans : (fan limit stamp : ℕ) (l ls xs hs : List ℕ) → Sizes K fan limit ls xs hs → Words K l
      → (length (calls.begun K fan limit stamp l ls xs hs).leaves ≡ length ls) × (length (calls.begun K fan limit stamp l ls xs hs).inners ≡ length xs) × (length (calls.begun K fan limit stamp l ls xs hs).homes ≡ length hs)
  unfolding calls.begun All
  begun_spans fan limit stamp l ls xs hs z w =
      let r : Roomy (shape (stride K) fan limit) (areas ls xs) = record { words = refl; columns = omega arith; slots = z.fan_low; leaves = z.leaf_area; inners = z.inner_area } in
      let n = nodes_least fan limit in
      let e = w.long in (
        (put_leaf (shape (stride K) fan limit) (areas ls xs) 0 (new_node (stride K) fan 0 ((0 ∷ l) ∷ [])) r (omega arith) (formed_new (stride K) fan 0 ((0 ∷ l) ∷ []) (omega arith) (omega arith, tt) (let y = z.fan_low in omega arith))).leaves,
        (put_inner (shape (stride K) fan limit) (areas ls xs) 0 (new_node (stride K) fan none ((0 ∷ l) ∷ [])) r (omega arith) (formed_new (stride K) fan none ((0 ∷ l) ∷ []) (omega arith) (omega arith, tt) (let y = z.fan_low in omega arith))).inners,
        length-set hs 0 0,
      )

  reset_leaves : (l : List ℕ) → Words K l → Leaves (outcome_answer (calls.reset K s l).answer).number s (calls.reset K s l).after
  unfolding calls.reset
  reset_leaves l w =
      let h = s.head in
      unless_leaves outcome_answer Err (λ n. refl) s (calls.make_causes K h.fan h.limit l s.leaves s.inners s.homes) (calls.reply (calls.begun K h.fan h.limit (next_stamp h.stamp) l s.leaves s.inners s.homes) (Ok tt))
      (λ e. let b = begun_spans h.fan h.limit (next_stamp h.stamp) l s.leaves s.inners s.homes (sizes_of K h.fan h.limit s.leaves s.inners s.homes (level_made K h.fan h.limit l s.leaves s.inners s.homes (few K l _ e)).0) w in
      finished 0 s (calls.begun K h.fan h.limit (next_stamp h.stamp) l s.leaves s.inners s.homes) refl b.0 b.1 b.2)

  end_left : (k : Result (Option LeafNo) Broken) → KeepsLengths s (calls.end_of K s k).number (calls.end_of K s k).state
  end_left (Ok (Some k)) = record { ends = λ z. absurd (z refl); leaves = refl; inners = refl; homes = refl }
  end_left (Ok None) = record { ends = λ z. refl; leaves = refl; inners = refl; homes = refl }
  end_left (Err _) = record { ends = λ z. refl; leaves = refl; inners = refl; homes = refl }

  aim_left : (t : Option Cursor) → KeepsLengths s (calls.aim K s t).number (calls.aim K s t).state
  aim_left (Some c) = record { ends = λ z. absurd (z refl); leaves = refl; inners = refl; homes = refl }
  aim_left None = end_left (last_down (shape_of K s.head) s.head.levels s.head.root.0 s.inners)

  placed_left : (t : Option Cursor) (l : List ℕ) → Words K l → RoomyInUse (shape_of K s.head) s → KeepsLengths s (calls.placed K s t l).0.number (calls.placed K s t l).0.state
  placed_left t l w h =
      climb_left (shape_of K s.head) s K.effect l (cond (eqb (calls.aim K s t).number 0) (place.place (shape_of K s.head) s (calls.aim K s t).leaf (calls.aim K s t).slot l) (calls.aim K s t)) h (let e = w.long in omega arith)
      (aimed (calls.aim K s t) (aim_left t) (eqb (calls.aim K s t).number 0))
    where
      aimed : (r : Change) → KeepsLengths s r.number r.state → (b : Bool) → KeepsLengths s (cond b (place.place (shape_of K s.head) s r.leaf r.slot l) r).number (cond b (place.place (shape_of K s.head) s r.leaf r.slot l) r).state
      aimed r o true = place_left (shape_of K s.head) s r.leaf r.slot l h (let e = w.long in omega arith)
      aimed r o false = o

  resized_left : (c : Cursor) (l : List ℕ) → Words K l → RoomyInUse (shape_of K s.head) s → Current K s c → KeepsLengths s (calls.resized K s c l).0.number (calls.resized K s c l).0.state
  unfolding minus
  resized_left c l w h o =
      let e = w.long in
      let hk : c.leaf.0 < (shape_of K s.head).nodes = (let x = o.leaf in let y = h.leaf_count in omega arith) in
      let n : length (lengths (calls.slot_at K s c)) ≡ stride K - 1 = leaf_slot (shape_of K s.head) s c.leaf.0 c.slot h hk o.slot in
      let z = length_zip (λ x y. wrap (x + (2 ^ 32 - y))) l (lengths (calls.slot_at K s c)) (omega arith) in
      climb_left (shape_of K s.head) s K.effect (minus l (lengths (calls.slot_at K s c))) (place.replace (shape_of K s.head) s c.leaf.0 c.slot l) h (omega arith)
      (replace_left (shape_of K s.head) s c.leaf.0 c.slot l h (omega arith) hk)

  pub insert_leaves : (room : List Cause) (t : Option Cursor) (l : List ℕ) → Words K l → Leaves (inserted_answer (calls.insert_by K room s t l).answer).number s (calls.insert_by K room s t l).after
  unfolding calls.insert_by opening
  insert_leaves room t l w = let r = calls.placed K s t l in let a = Ok (calls.entry_id s.head.entries, r.1) in
      unless_leaves inserted_answer Err (λ n. refl) s (calls.insert_causes K room s t l) (calls.settled s r.0 Err a)
      (λ e. settled_leaves inserted_answer Err (λ n. refl) s r.0 a refl (placed_left t l w (opened K s (calls.target_causes K s t ++ crossed_bounds K l ∷ past K s [] l ∷ room) (few K l _ e)).0))

  set_leaves : (c : Cursor) (l : List ℕ) → Words K l → Leaves (outcome_answer (calls.set_lengths K s c l).answer).number s (calls.set_lengths K s c l).after
  unfolding calls.set_lengths opening
  set_leaves c l w = let r = calls.resized K s c l in
      unless_leaves outcome_answer Err (λ n. refl) s (calls.resize_causes K s c l) (calls.settled s r.0 Err (Ok tt))
      (λ e. let o = opened K s (at_cursor K s c ++ crossed_bounds K l ∷ past K s (lengths (calls.slot_at K s c)) l ∷ []) (few K l _ e) in settled_leaves outcome_answer Err (λ n. refl) s r.0 (Ok tt) refl (resized_left c l w o.0 (current_of K s c (crossed_bounds K l ∷ past K s (lengths (calls.slot_at K s c)) l ∷ []) o.1)))

  update_leaves : (c : Cursor) (l : List ℕ) → Words K l → Leaves (number_answer (calls.update K s c l).answer).number s (calls.update K s c l).after
  unfolding calls.update opening
  update_leaves c l w = let r = calls.resized K s c l in
      unless_leaves number_answer Err (λ n. refl) s (calls.resize_causes K s c l) (calls.settled s r.0 Err (Ok r.1))
      (λ e. let o = opened K s (at_cursor K s c ++ crossed_bounds K l ∷ past K s (lengths (calls.slot_at K s c)) l ∷ []) (few K l _ e) in settled_leaves number_answer Err (λ n. refl) s r.0 (Ok r.1) refl (resized_left c l w o.0 (current_of K s c (crossed_bounds K l ∷ past K s (lengths (calls.slot_at K s c)) l ∷ []) o.1)))

  pub split_leaves : (room : List Cause) (c : Cursor) (l : List ℕ) (flag : Bool) → Words K l → Leaves (divided_answer (calls.split_by K room s c l flag).answer).number s (calls.split_by K room s c l flag).after
  unfolding calls.split_by opening
  split_leaves room c l flag w = let r = place.divide (shape_of K s.head) flag s c.leaf.0 c.slot l in
      let a = calls.divided_at s.head.entries (next_stamp s.head.stamp) r.leaf r.slot in
      unless_leaves divided_answer Err (λ m. refl) s (calls.split_causes K room s c l) (calls.settled s r Err a)
      (λ e. settled_leaves divided_answer Err (λ m. refl) s r a refl (divide_left (shape_of K s.head) flag s c.leaf.0 c.slot l (opened K s (at_cursor K s c ++ too_much K l (lengths (calls.slot_at K s c)) ∷ hollow_part K l (lengths (calls.slot_at K s c)) ∷ crossed_parts K l (lengths (calls.slot_at K s c)) ∷ room) (few K l _ e)).0 (let z = w.long in omega arith)))

  -- a lookup writes no area, and keeps a finger only where it finds an entry
  search_leaves : (b : Search) → Leaves (located_answer (calls.by_search s b).answer).number s (calls.by_search s b).after
  search_leaves (Ok (Some (f, offset))) = finished 0 s (calls.hit s f offset).after refl refl refl refl
  search_leaves (Ok None) = unmoved 5 s
  search_leaves (Err _) = unmoved 9 s

  finger_leaves : (a b : Search) → Leaves (located_answer (calls.by_finger s a b).answer).number s (calls.by_finger s a b).after
  finger_leaves (Ok (Some (f, offset))) b = finished 0 s (calls.hit s f offset).after refl refl refl refl
  finger_leaves (Ok None) b = search_leaves b
  finger_leaves (Err _) b = unmoved 9 s

  locate_leaves : (v x : ℕ) → Leaves (located_answer (calls.locate K s v x).answer).number s (calls.locate K s v x).after
  unfolding calls.locate
  locate_leaves v x =
      let h = s.head in
      unless_leaves located_answer Err (λ n. refl) s (opening K s) _
      (λ e. finger_leaves (served_by v K.effect (shape_of K s.head) h.finger h.leaves x s.leaves) (from_root v K.effect (shape_of K s.head) h.levels h.root.0 h.leaves x s.leaves s.inners))

  -- the number is the same without the two positions
  less_number : (a : Numbered (Cursor × ℕ × ℕ × ℕ)) → (selected_answer (calls.less_positions a)).number ≡ (located_answer a).number
  less_number (Ok (c, offset, effect, prepare)) = refl
  less_number (Err n) = refl

  select_leaves : (v x : ℕ) → Leaves (selected_answer (calls.char_index_to_entry K s v x).answer).number s (calls.char_index_to_entry K s v x).after
  unfolding calls.char_index_to_entry
  select_leaves v x = rw (less_number (calls.locate K s v x).answer) (locate_leaves v x)

  -- by id ---------------------------------------------------------------------------------------------------------------------------------

  at_leaves : (c : Numbered Cursor) (f : Cursor → Moved State) → ((c : Cursor) → Leaves (f c).answer.number s (f c).after) → Leaves (with_cursor s c f).answer.number s (with_cursor s c f).after
  at_leaves (Ok c) f h = h c
  at_leaves (Err n) f h = unmoved n s

  target_leaves : (i : ℕ) (f : Option Cursor → Moved State) → ((t : Option Cursor) → Leaves (f t).answer.number s (f t).after) → Leaves (with_target K s i f).answer.number s (with_target K s i f).after
  target_leaves i f h = go (eqb i no_entry) refl
    where
      go : (b : Bool) → eqb i no_entry ≡ b → Leaves (with_target K s i f).answer.number s (with_target K s i f).after
      go true e = rw e (h None)
      go false e = rw e (at_leaves (calls.cursor K s i) (λ c. f (Some c)) (λ c. h (Some c)))

  -- the new id alone
  -- a finger found stands at a slot in use, so its id is read
  id_read : (f : Finger) (offset : ℕ) (vs : List ℕ) → refusal (opening K s) ≡ 0 → SlotInUse K s f
      → (by_id.id_answer (calls.id K (calls.hit s f offset).after (calls.cursor_at s.head.stamp f.leaf f.slot)) vs).number ≡ 0
  unfolding calls.id opening refusal
  id_read f offset vs e h =
      let t = (calls.hit s f offset).after in
      let c = calls.cursor_at s.head.stamp f.leaf f.slot in
      let n = (node_at (shape_of K s.head) f.leaf s.leaves).len in
      let at : refusal (at_cursor K t c) ≡ 0 = rw (eq-eqb s.head.stamp s.head.stamp refl, lt-leb s.head.leaves f.leaf h.leaf, lt-leb n f.slot h.slot, le-ltb s.head.fan n h.filled) in
      ap (λ (a : Numbered EntryId). (by_id.id_answer a vs).number) (passed (opening K t ++ at_cursor K t c) Err (Ok (calls.entry_id (child (calls.slot_at K t c)))) (none_more (opening K t) (at_cursor K t c) e at))

  found_leaves : (a b : Search) → refusal (opening K s) ≡ 0 → Finds K s a → Finds K s b
      → Leaves (by_id.located_answer K (calls.by_finger s a b).after (calls.by_finger s a b).answer).number s (calls.by_finger s a b).after
  found_leaves (Ok (Some (f, offset))) b e h k = finished _ s (calls.hit s f offset).after (id_read f offset (offset ∷ effect_at f ∷ prepare_at f ∷ []) e h) refl refl refl
  found_leaves (Ok None) (Ok (Some (f, offset))) e h k = finished _ s (calls.hit s f offset).after (id_read f offset (offset ∷ effect_at f ∷ prepare_at f ∷ []) e k) refl refl refl
  found_leaves (Ok None) (Ok None) e h k = unmoved 5 s
  found_leaves (Ok None) (Err _) e h k = unmoved 9 s
  found_leaves (Err _) b e h k = unmoved 9 s

  look_leaves : (v x : ℕ) → Leaves (tree_move K s (row.lookup v x)).answer.number s (tree_move K s (row.lookup v x)).after
  unfolding tree_move calls.locate
  look_leaves v x =
      let h = s.head in
      by_test (λ (r : Reply (Numbered (Cursor × ℕ × ℕ × ℕ))). Leaves (by_id.located_answer K r.after r.answer).number s r.after) (eqb (refusal (opening K s)) 0) _ _
      (λ e. found_leaves (served_by v K.effect (shape_of K h) h.finger h.leaves x s.leaves) (from_root v K.effect (shape_of K h) h.levels h.root.0 h.leaves x s.leaves s.inners)
      (eqb-true _ _ e) (held_finds K s v h.finger x) (root_finds K s v x))
      (λ _. unmoved (refusal (opening K s)) s)

  move_leaves : (c : Call) → InWords K c → Leaves (tree_move K s c).answer.number s (tree_move K s c).after
  unfolding tree_move
  move_leaves (row.reset l) k = reset_leaves l k
  move_leaves (row.insert i l) k = target_leaves i (λ t. told (calls.insert K s t l) inserted_answer) (λ t. insert_leaves (full s ∷ []) t l k.1)
  move_leaves (row.split flag i l) k = at_leaves (calls.cursor K s i) (λ c. told (calls.split_entry K s c l flag) by_id.divided_id_answer) (λ c. rw (id_number (calls.split_entry K s c l flag).answer) (split_leaves (full s ∷ []) c l flag k.1))
  move_leaves (row.set_lengths i l) k = at_leaves (calls.cursor K s i) (λ c. told (calls.set_lengths K s c l) outcome_answer) (λ c. set_leaves c l k.1)
  move_leaves (row.update i l) k = at_leaves (calls.cursor K s i) (λ c. told (calls.update K s c l) number_answer) (λ c. update_leaves c l k.1)
  move_leaves (row.lookup v x) k = look_leaves v x
  move_leaves (row.rank v i) k = at_leaves (calls.cursor K s i) _ (λ c. unmoved _ s)
  move_leaves (row.next i) k = at_leaves (calls.cursor K s i) _ (λ c. unmoved _ s)
  move_leaves (row.compare i j) k = at_leaves (calls.cursor K s i) _ (λ a. at_leaves (calls.cursor K s j) _ (λ b. unmoved _ s))
  move_leaves (row.lengths i) k = at_leaves (calls.cursor K s i) _ (λ c. unmoved _ s)
  move_leaves row.count k = unmoved _ s
  move_leaves row.first k = unmoved _ s
  move_leaves row.malformed k = unmoved _ s

  -- 10 leaves the tree
  step_leaves : (c : Call) → InWords K c → Leaves (tree_step K s c).answer.number s (tree_step K s c).after
  unfolding tree_step
  step_leaves c k = by_test (λ (m : Moved State). Leaves m.answer.number s m.after) (overlong K c) (row.moved s (row.refused 10)) (tree_move K s c) (λ _. unmoved 10 s) (λ _. move_leaves c k)

-- all calls -------------------------------------------------------------------------------------------------------------------------------

pub refusals : (K : Kind) (s : State) → Refusals K s
refusals K s =
    record {
      reset = reset_leaves K s;
      insert = insert_leaves K s (full s ∷ []);
      split = split_leaves K s (full s ∷ []);
      set_lengths = set_leaves K s;
      update = update_leaves K s;
      locate = locate_leaves K s;
      select = select_leaves K s;
      step = step_leaves K s;
    }

pub make_leaves : (K : Kind) (fan limit : ℕ) (l ls xs hs : List ℕ) → Words K l → Made K fan limit l ls xs hs
unfolding calls.make
make_leaves K fan limit l ls xs hs w = go (eqb (refusal (calls.make_causes K fan limit l ls xs hs)) 0) refl
  where
    go : (b : Bool) → eqb (refusal (calls.make_causes K fan limit l ls xs hs)) 0 ≡ b → Made K fan limit l ls xs hs
    go true e =
        let b = begun_spans K (state (head_of 0 0 0 0 0 0 0 0 None) ls xs hs) fan limit 1 l ls xs hs (sizes_of K fan limit ls xs hs (level_made K fan limit l ls xs hs (few K l _ (eqb-true _ _ e))).0) w in
        record { refused = rw e (λ d. absurd (d refl)); leaves = rw e b.0; inners = rw e b.1; homes = rw e b.2 }
    go false e = record { refused = rw e (λ d. refl); leaves = rw e refl; inners = rw e refl; homes = rw e refl }

-- demand 1 whole
pub demand1 : (K : Kind) → Demand1 K
demand1 K = record { made = make_leaves K; refused = refusals K; printed = print_leaves K; fixed = fixes K; bare = bares }
