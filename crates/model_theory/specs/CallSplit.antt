-- Split on a sound state does what it does on the row.
use Rattle.model.specs.declared.number.EntryId.{EntryId}
use Rattle.model.specs.declared.head.Cursor.{Cursor}
use Rattle.model.specs.Numbered.{Numbered}
use Rattle.std.specs.Prelude.{◌≡◌, Bool, true, false, ◌||◌, ltb, Err}
use Rattle.std.proofs.Math.Path.{refl, sym, ap, ap₂}
use Rattle.std.proofs.Common.{◌∙◌, subst, add-zero, arith, drop-cons}
use Rattle.std.proofs.Math.Bool.{cond}
use mathlib.Core.List.{List, [], ◌∷◌, ◌++◌, map, zip_with, head-eq_of_cons-eq, append_assoc}
use Prim.Native.Nat.{ℕ, zero, suc, ◌+◌, ◌-◌, ◌<◌, ◌≤◌}
use Rattle.std.proofs.Math.Decide.{dec_lt}
use Rattle.std.proofs.Math.ListN.{length, get_or, take, drop, length-append, get_or-eq_default}
use Rattle.std.proofs.Math.Seq.{get_or-append-add, length-take-le}
use borrow.Author.Tests.{lt-ltb, le-leb, ltb-false}
use Rattle.model.specs.Kind.{stride, views_of, too_many_lines, hollow, crossed}
use Rattle.model.specs.declared.shape.Kind.{Kind}
use Rattle.model.specs.Lists.{sum_by, some, Cause, refusal}
use Rattle.model.specs.Node.{Node, lengths, length_in, used, child_split}
use Rattle.model.specs.State.{State, next_stamp}
use Rattle.model.specs.Locate.{changing}
use Rattle.model.specs.Place as place
use Rattle.model.specs.Place.{change, enter}
use Rattle.model.specs.Row as row
use Rattle.model.specs.Row.{Row, Entry, entry, Answer, done, refused, Moved, moved, new_entry, unless, after, divided, row_move}
use Rattle.model.specs.Sound.{leaf_in, shape_in, Coherent, entries_of}
use Rattle.model.specs.Refuse.{opening, at_cursor}
use Rattle.model.specs.Refuse as refuse'
use Rattle.model.specs.Calls as calls
use Rattle.model.specs.Calls.{cursor_at, divided_at, split_causes}
use Rattle.model.specs.ById.{with_cursor, told, tree_move, divided_id_answer}
use Rattle.model_tree.specs.Lists.{cat, sum_by_append, map_append}
use Rattle.model_tree.specs.Levels.{no_slot, Slot, len}
use Rattle.model_tree.specs.Insert as insert
use Rattle.model_tree.specs.Update.{upd}
use Rattle.model_tree.specs.Tree as tree
use Rattle.model_tree.specs.Tree.{Tree}
use Rattle.model_tree.specs.Edit as ops
use Rattle.model_tree.specs.Change.{with_leaf}
use Rattle.model_tree.specs.Calls.{slot_at, spot, Done, divide_in, divide_done}
use Rattle.model_tree.specs.Place.{front, behind}
use Rattle.model_theory.specs.RowViews.{none_in, firsts_of, firsts_less}
use Rattle.model_theory.specs.WordTidy.{Tidy}
use Rattle.model_theory.specs.LiftTree.{slot_of, slots_of, area_of, tree_of}
use Rattle.model_theory.specs.LiftMarks.{get_d_slot}
use Rattle.model_theory.specs.WordNeat.{size_is, neat_of}
use Rattle.model_theory.specs.LiftSound.{body_of}
use Rattle.model_theory.specs.LiftSoundBack.{sound_up}
use Rattle.model_theory.specs.WordPut.{inner_keeps}
use Rattle.model_theory.specs.LiftEntries.{firsts, get_d_firsts, entry_from}
use Rattle.model_theory.specs.CallOpen.{passed, stopped, few_lines, opens, fresh_at, EntryFound}
use Rattle.model_theory.specs.ChangeSums.{slot_of_law}
use Rattle.model_theory.specs.ChangeMakeRoom.{Roomed}
use Rattle.model_theory.specs.ChangeGap.{opened, leaf_with, Gap, gap}
use Rattle.model_theory.specs.ChangeEnter.{entered, entered_read, entered_neat, entered_tree}
use Rattle.model_theory.specs.ChangeSplitSlot.{halved_tidy, halved_parent, halved_at, halved_slots}
use Rattle.model_theory.specs.CallSimulates.{Simulates, Mirrors, row_of, Space, by_limit, row_passed, row_stopped, own, entries_are, count_is, by_id, before_is, from_is, slot_lengths}

-- the row's causes behind the id
abbrev pub behind_id : Kind → List Cause → Row → ℕ → List ℕ → List Cause
behind_id K room r i l = row.too_much K l (row.lengths_of i r.entries) ∷ row.hollow_part K l (row.lengths_of i r.entries) ∷ row.crossed_parts K l (row.lengths_of i r.entries) ∷ room

-- the children of a divided entry's two parts
first_part : (flag : Bool) (e : Slot) (u : ℕ → ℕ) (n : ℕ) (S : List Slot) → (get_or (ops.divided flag e u n S) 0 no_slot).child ≡ cond flag n e.child
first_part true e u n S = refl
first_part false e u n S = refl

second_part : (flag : Bool) (e : Slot) (u : ℕ → ℕ) (n : ℕ) (S : List Slot) → (get_or (ops.divided flag e u n S) 1 no_slot).child ≡ cond flag e.child n
second_part true e u n S = refl
second_part false e u n S = refl

two_parts : (flag : Bool) (e : Slot) (u : ℕ → ℕ) (n : ℕ) (S : List Slot) → 2 ≤ length (ops.divided flag e u n S)
two_parts true e u n S = omega arith
two_parts false e u n S = omega arith

-- a sound state in which a divided entry's parts stand in slot j of leaf k and in the slot after it; n is the new id, m the stamp
pub record TwoParts (K : Kind) (flag : Bool) (i n m : ℕ) (s : State) (k j : ℕ) : Type 0 where
  pub sound : Coherent K s
  pub stamp : s.head.stamp ≡ m
  pub leaf_in_law : k < s.head.leaves
  pub slot_in_law : j + 1 < (leaf_in (stride K) s k).len
  pub first : (slot_at (tree_of (stride K) s) k j).child ≡ cond flag n i
  pub second : (slot_at (tree_of (stride K) s) k (j + 1)).child ≡ cond flag i n

module _ (K : Kind) (t : State) (w : Coherent K t) (i : ℕ) (c : EntryFound K t w i) (l : List ℕ) (wl : length l ≡ K.views) (lines : too_many_lines K l ≡ false) (flag : Bool) where
  abbrev new : ℕ → ℕ
  new u = get_or l u 0

  abbrev e : Slot
  e = c.cur.e

  abbrev R₁ : List Slot
  R₁ = front c.cur

  abbrev R₃ : List Slot
  R₃ = behind c.cur

  -- where the entry has the lengths that leave it, and the tree has room for one entry more
  module _ (enough : (v : ℕ) → new v ≤ e.lens v) (few : t.head.entries < t.head.limit) where
    gp : Gap K t c.leaf c.slot R₁ (e ∷ R₃)
    gp = gap K t c.leaf c.slot w c.cur.A c.cur.B c.cur.body (let z = c.cur.inside in omega arith) R₁ (e ∷ R₃) c.cur.made

    abbrev q : Roomed (stride K) t c.leaf c.slot
    q = gp.room

    abbrev t₁ : State
    t₁ = opened K t c.leaf c.slot q

    abbrev m : Node
    m = leaf_with K t c.leaf c.slot q

    ins : q.slot < length (slots_of (leaf_in (stride K) t₁ q.leaf))
    ins = gp.made.inside c.cur.inside

    lj : q.slot < length (used m)
    unfolding leaf_with
    lj = (let z = ins in omega (arith, gp.count))

    -- the slot there is the entry's
    here : slot_of (get_or (used m) q.slot []) ≡ e
    unfolding leaf_with
    here = sym (get_d_slot (used m) q.slot lj) ∙ head-eq_of_cons-eq (ap (λ (y : List Slot). y ++ cat (tree_of (stride K) t₁).body.leaf.slots gp.made.room.B) (sym (drop-cons (slots_of m) q.slot no_slot ins)) ∙ gp.made.room.rest)

    x : List ℕ
    x = t.head.entries ∷ l

    x_is : slot_of x ≡ insert.slot_of t.head.entries new
    unfolding x
    x_is = slot_of_law t.head.entries l

    le : (v : ℕ) → length_in v x ≤ length_in v (get_or (used m) q.slot [])
    le v = (let a = ap (λ (y : Slot). y.lens v) here in let b = ap (λ (y : Slot). y.lens v) x_is in let d = enough v in omega arith)

    small : (v : ℕ) → length_in v (get_or (used m) q.slot []) < 4294967296
    unfolding sum_by
    small v = (let a = ap (λ (y : Slot). y.lens v) here in
        let b : sum_by (len v) (tree.row (tree_of (stride K) t)) ≡ sum_by (len v) R₁ + (e.lens v + sum_by (len v) R₃) = ap (sum_by (len v)) c.cur.row ∙ sum_by_append (len v) R₁ (e ∷ R₃) in omega (arith, (body_of (stride K) t K.effect w).totals v))

    m₂ : Node
    m₂ = child_split flag q.slot x m

    td₂ : Tidy (stride K) t.head.fan m₂
    unfolding m₂ x
    td₂ = halved_tidy (stride K) t.head.fan (omega arith) m gp.tidy q.slot x lj gp.free (ap suc wl) le small flag

    pa : (leaf_in (stride K) t₁ q.leaf).parent ≡ m₂.parent
    unfolding m₂ leaf_with x
    pa = halved_parent (stride K) t.head.fan (omega arith) m gp.tidy q.slot x lj gp.free (ap suc wl) le small flag

    at : (leaf_in (stride K) t₁ q.leaf).at ≡ m₂.at
    unfolding m₂ leaf_with x
    at = halved_at (stride K) t.head.fan (omega arith) m gp.tidy q.slot x lj gp.free (ap suc wl) le small flag

    t₃ : State
    t₃ = entered (stride K) t₁ q.leaf q.slot m₂ q.xs

    tree_is : tree_of (stride K) t₃ ≡ divide_in flag (tree_of (stride K) t₁) q.leaf q.slot new
    unfolding t₃ m₂ leaf_with x
    tree_is = entered_tree (stride K) (omega arith) t₁ q.neat q.leaf q.slot gp.leaf_in_law m₂ td₂ pa at few q.xs
        ∙ ap (λ (ss : List Slot). with_leaf (tree_of (stride K) t₁) q.leaf ss (area_of (shape_in (stride K) t₁) q.xs) (upd (tree_of (stride K) t₁).homes t.head.entries q.leaf) (suc t.head.entries) (changing q.leaf q.slot t.head.finger))
        (halved_slots (stride K) t.head.fan (omega arith) m gp.tidy q.slot x lj gp.free (ap suc wl) le small flag t.head.entries new x_is)

    done_is : Done K.effect (spot (tree_of (stride K) t₁) q.leaf q.slot) R₁ (divide_in flag (tree_of (stride K) t₁) q.leaf q.slot new) (R₁ ++ ops.divided flag e new t.head.entries R₃)
    done_is = divide_done K.effect flag (tree_of (stride K) t) (spot (tree_of (stride K) t₁) q.leaf q.slot) R₁ e R₃ gp.made.room new ins gp.made.space few enough

    sound₃ : Coherent K t₃
    unfolding t₃
    sound₃ = sound_up (stride K) t₃ K.effect (entered_neat (stride K) (omega arith) t₁ q.neat q.leaf q.slot gp.leaf_in_law m₂ td₂ pa at few q.xs (inner_keeps (stride K) t₁ q.neat)) (subst (tree.Sound K.effect) (sym tree_is) done_is.sound)

    -- the row's entries, divided
    divided_entries : (b : Bool) → map (entry_from K.views) (ops.divided b e new t.head.entries R₃)
        ≡ cond b (new_entry (row_of K t) l ∷ entry i (zip_with ◌-◌ (row.lengths_of i (entries_of K t)) l) ∷ after i (entries_of K t)) (entry i (zip_with ◌-◌ (row.lengths_of i (entries_of K t)) l) ∷ new_entry (row_of K t) l ∷ after i (entries_of K t))
    divided_entries true =
        ap₂ (λ (a b : List ℕ). entry t.head.entries a ∷ entry e.child b ∷ map (entry_from K.views) R₃) (firsts_of K.views l wl) (firsts_less K.views e.lens l wl)
        ∙ ap (λ (k : ℕ). entry t.head.entries l ∷ entry k (zip_with ◌-◌ (firsts K.views e.lens) l) ∷ map (entry_from K.views) R₃) c.cur.own
        ∙ sym (ap (λ (f : List Entry). entry t.head.entries l ∷ entry i (zip_with ◌-◌ (get_or f 0 (entry i [])).lengths l) ∷ drop 1 f) (from_is K t w i c))
        ∙ ap (λ (k : ℕ). entry k l ∷ entry i (zip_with ◌-◌ (row.lengths_of i (entries_of K t)) l) ∷ after i (entries_of K t)) (sym (count_is K t w))
    divided_entries false =
        ap₂ (λ (a b : List ℕ). entry e.child b ∷ entry t.head.entries a ∷ map (entry_from K.views) R₃) (firsts_of K.views l wl) (firsts_less K.views e.lens l wl)
        ∙ ap (λ (k : ℕ). entry k (zip_with ◌-◌ (firsts K.views e.lens) l) ∷ entry t.head.entries l ∷ map (entry_from K.views) R₃) c.cur.own
        ∙ sym (ap (λ (f : List Entry). entry i (zip_with ◌-◌ (get_or f 0 (entry i [])).lengths l) ∷ entry t.head.entries l ∷ drop 1 f) (from_is K t w i c))
        ∙ ap (λ (k : ℕ). entry i (zip_with ◌-◌ (row.lengths_of i (entries_of K t)) l) ∷ entry k l ∷ after i (entries_of K t)) (sym (count_is K t w))

    entries₃ : entries_of K t₃ ≡ divided flag i (new_entry (row_of K t) l) (entries_of K t)
    unfolding divided
    entries₃ = entries_are K t₃ sound₃ ∙ ap (λ (T : Tree). map (entry_from K.views) (tree.row T)) tree_is ∙ ap (map (entry_from K.views)) done_is.is ∙ map_append (entry_from K.views) R₁ (ops.divided flag e new t.head.entries R₃)
        ∙ ap₂ ◌++◌ (sym (before_is K t w i c)) (divided_entries flag)

    -- the model's step
    divide_is : place.divide (shape_in (stride K) t) flag t c.leaf c.slot l ≡ change 0 t₃ q.leaf q.slot
    unfolding place.divide enter m₂ leaf_with x t₃
    divide_is = rw (
      q.is,
      lt-ltb q.leaf (shape_in (stride K) t).nodes (let z = q.neat.leaf_count in let y = gp.leaf_in_law in omega arith),
      le-leb (q.slot + 1) (leaf_in (stride K) t₁ q.leaf).len (let z = ins in omega (arith, gp.len)),
      lt-ltb (leaf_in (stride K) t₁ q.leaf).len t.head.fan (let z = gp.made.space in omega (arith, gp.len)),
    )

    -- the leaf of the entry in it
    slots₃ : slots_of (leaf_in (stride K) t₃ q.leaf) ≡ take q.slot (slots_of m) ++ ops.divided flag (get_or (slots_of m) q.slot no_slot) new t.head.entries (drop (suc q.slot) (slots_of m))
    unfolding t₃ m₂ leaf_with x
    slots₃ = ap slots_of (entered_read (stride K) (omega arith) t₁ q.neat q.leaf q.slot gp.leaf_in_law m₂ td₂ pa at few) ∙ halved_slots (stride K) t.head.fan (omega arith) m gp.tidy q.slot x lj gp.free (ap suc wl) le small flag t.head.entries new x_is

    parted₃ : TwoParts K flag i t.head.entries (next_stamp t.head.stamp) t₃ q.leaf q.slot
    unfolding t₃ leaf_with
    parted₃ =
        let F : List Slot = take q.slot (slots_of m) in
        let y : Slot = get_or (slots_of m) q.slot no_slot in
        let S : List Slot = drop (suc q.slot) (slots_of m) in
        let D : List Slot = ops.divided flag y new t.head.entries S in
        let own : y.child ≡ i = ap (λ (z : Slot). z.child) (get_d_slot (used m) q.slot lj ∙ here) ∙ c.cur.own in
        let lf : length F ≡ q.slot = length-take-le q.slot (slots_of m) (let z = ins in omega arith) in
        let at : (n : ℕ) → slot_at (tree_of (stride K) t₃) q.leaf (q.slot + n) ≡ get_or D n no_slot = λ n. ap₂ (λ (l : List Slot) (k : ℕ). get_or l (k + n) no_slot) slots₃ (sym lf) ∙ get_or-append-add F D n no_slot in
        let sz : length (slots_of (leaf_in (stride K) t₃ q.leaf)) ≡ (leaf_in (stride K) t₃ q.leaf).len = size_is (stride K) t.head.fan (leaf_in (stride K) t₃ q.leaf) ((neat_of (stride K) t₃ K.effect sound₃).leaf_tidy q.leaf gp.leaf_in_law) in
        record {
          sound = sound₃;
          stamp = refl;
          leaf_in_law = gp.leaf_in_law;
          slot_in_law = (let z = ap length slots₃ ∙ length-append F D in omega (arith, two_parts flag y new t.head.entries S));
          first = ap (λ (n : ℕ). (slot_at (tree_of (stride K) t₃) q.leaf n).child) (sym (add-zero q.slot)) ∙ ap (λ (z : Slot). z.child) (at 0) ∙ first_part flag y new t.head.entries S ∙ ap (cond flag t.head.entries) own;
          second = ap (λ (z : Slot). z.child) (at 1) ∙ second_part flag y new t.head.entries S ∙ ap (λ (k : ℕ). cond flag k t.head.entries) own;
        }

    stands₃ : Mirrors K t₃ (row.row t.head.limit (divided flag i (new_entry (row_of K t) l) (entries_of K t)))
    unfolding t₃
    stands₃ = record { coherent = sound₃; entries = entries₃; limit = refl }

  -- the causes of both
  abbrev short : Bool
  short = some (λ v. ltb (get_or (row.lengths_of i (entries_of K t)) v 0) (get_or l v 0)) (views_of K)

  row_lens : (v : ℕ) → v < K.views → get_or (row.lengths_of i (entries_of K t)) v 0 ≡ e.lens v
  row_lens v lv = ap (λ (f : List Entry). get_or (get_or f 0 (entry i [])).lengths v 0) (from_is K t w i c) ∙ get_d_firsts K.views e.lens v lv

  enough_of : short ≡ false → (v : ℕ) → new v ≤ e.lens v
  enough_of ok v = go (dec_lt v K.views)
    where
      go : Dec (v < K.views) → new v ≤ e.lens v
      go (yes lv) = (let z = ltb-false (get_or (row.lengths_of i (entries_of K t)) v 0) (get_or l v 0) (none_in (λ v. ltb (get_or (row.lengths_of i (entries_of K t)) v 0) (get_or l v 0)) K.views ok v lv) in let y = row_lens v lv in omega arith)
      go (no ge) = (let z : get_or l v 0 ≡ 0 = get_or-eq_default l 0 {n = v} (omega arith) in omega arith)

  abbrev empty : Bool
  empty = hollow K l || hollow K (zip_with ◌-◌ (row.lengths_of i (entries_of K t)) l)

  abbrev fallen : Bool
  fallen = crossed K l || crossed K (zip_with ◌-◌ (row.lengths_of i (entries_of K t)) l)

  -- with the causes for want of space
  module _ (room rowRoom : List Cause) (space : Space t room rowRoom) where
    -- the number of three tests and, behind them, of want of space
    abbrev number_of : Bool → Bool → Bool → ℕ → ℕ
    number_of a b x n = cond a 6 (cond b 17 (cond x 20 n))

    abbrev causes : List Cause
    causes = split_causes K room t (cursor_at t.head.stamp c.leaf c.slot) l

    -- those behind the cursor's, for an entry of the lengths ls
    abbrev part_causes : List ℕ → List Cause
    part_causes ls = refuse'.too_much K l ls ∷ refuse'.hollow_part K l ls ∷ refuse'.crossed_parts K l ls ∷ room

    abbrev row_causes : List Cause
    row_causes = behind_id K rowRoom (row_of K t) i l

    both_causes : refusal causes ≡ refusal row_causes
    unfolding refusal
    both_causes =
        let ls : List ℕ = lengths (get_or (leaf_in (stride K) t c.leaf).slots c.slot []) in
        few_lines K l (opening K t ++ at_cursor K t (cursor_at t.head.stamp c.leaf c.slot) ++ part_causes ls) lines
        ∙ ap refusal (append_assoc (opening K t) (at_cursor K t (cursor_at t.head.stamp c.leaf c.slot)) (part_causes ls))
        ∙ opens K t w (at_cursor K t (cursor_at t.head.stamp c.leaf c.slot) ++ part_causes ls)
        ∙ fresh_at K t w c.leaf c.slot (part_causes ls) c.leaf_in_law c.slot_in_law
        ∙ ap (λ (ls : List ℕ). refusal (part_causes ls)) (slot_lengths K t w i c)
        ∙ ap (number_of short empty fallen) space.same

    abbrev entries' : List Entry
    entries' = divided flag i (new_entry (row_of K t) l) (entries_of K t)

    abbrev row_answer : Answer
    row_answer = done (length (entries_of K t) ∷ [])

    -- where both stop at the same number, or the entry is parted and the state stands for the row
    pub split_by_law : (P : calls.Reply (Numbered (EntryId × Cursor × Cursor)) → Moved Row → Type 0) → ((n : ℕ) → P (calls.reply t (Err n)) (moved (row_of K t) (refused n)))
        → ((s : State) (k j : ℕ) → TwoParts K flag i t.head.entries (next_stamp t.head.stamp) s k j → Mirrors K s (row.row t.head.limit entries')
        → P (calls.reply s (divided_at t.head.entries (next_stamp t.head.stamp) k j)) (moved (row.row t.head.limit entries') row_answer))
        → P (calls.split_by K room t (cursor_at t.head.stamp c.leaf c.slot) l flag) (unless (row_of K t) row_causes entries' row_answer)
    unfolding refusal calls.split_by
    split_by_law P refusing parting = go short refl empty refl fallen refl (refusal rowRoom) refl
      where
        answered : calls.Reply (Numbered (EntryId × Cursor × Cursor))
        answered = let r = place.divide (shape_in (stride K) t) flag t c.leaf c.slot l in
            calls.settled t r Err (divided_at t.head.entries (next_stamp t.head.stamp) r.leaf r.slot)

        refuse : ℕ → calls.Reply (Numbered (EntryId × Cursor × Cursor))
        refuse n = calls.reply t (Err n)

        stop : (n : ℕ) → refusal row_causes ≡ suc n → P (calls.unless causes refuse answered) (unless (row_of K t) row_causes entries' row_answer)
        stop n z = rw (stopped causes refuse answered n (both_causes ∙ z), row_stopped (row_of K t) row_causes entries' row_answer n z) (refusing (suc n))

        number : {a b x : Bool} {n : ℕ} → short ≡ a → empty ≡ b → fallen ≡ x → refusal rowRoom ≡ n → refusal row_causes ≡ number_of a b x n
        number p q u r = rw (p, q, u, r)

        go : (p : Bool) → short ≡ p → (h : Bool) → empty ≡ h → (x : Bool) → fallen ≡ x → (n : ℕ) → refusal rowRoom ≡ n → P (calls.unless causes refuse answered) (unless (row_of K t) row_causes entries' row_answer)
        go true e' h d x u n f = stop 5 (number e' d u f)
        go false e' true d x u n f = stop 16 (number e' d u f)
        go false e' false d true u n f = stop 19 (number e' d u f)
        go false e' false d false u (suc n) f = stop n (number e' d u f)
        go false e' false d false u zero f =
            let z : refusal row_causes ≡ 0 = number e' d u f in
            let few : t.head.entries < t.head.limit = space.free f in
            rw (passed causes refuse answered (both_causes ∙ z), row_passed (row_of K t) row_causes entries' row_answer z, divide_is (enough_of e') few)
            (parting (t₃ (enough_of e') few) (q (enough_of e') few).leaf (q (enough_of e') few).slot (parted₃ (enough_of e') few) (stands₃ (enough_of e') few))

pub step_split_by : (K : Kind) (t : State) (w : Coherent K t) (room rowRoom : List Cause) (space : Space t room rowRoom) (flag : Bool) (i : ℕ) (l : List ℕ) (wl : length l ≡ K.views) → too_many_lines K l ≡ false
    → Simulates (Mirrors K) (with_cursor t (calls.cursor K t i) (λ c. told (calls.split_by K room t c l flag) divided_id_answer)) (row.split_by K rowRoom (row_of K t) flag i l)
step_split_by K t w room rowRoom space flag i l wl lines = by_id K t w i (λ c. told (calls.split_by K room t c l flag) divided_id_answer) (behind_id K rowRoom (row_of K t) i l) (divided flag i (new_entry (row_of K t) l) (entries_of K t)) (done (length (entries_of K t) ∷ []))
    (λ c. split_by_law K t w i c l wl lines flag room rowRoom space (λ m n. Simulates (Mirrors K) (told m divided_id_answer) n) (λ n. record { same = refl; kept = own K t w }) (λ s k j p h. record { same = ap (λ (n : ℕ). done (n ∷ [])) (sym (count_is K t w)); kept = h }))

pub step_split : (K : Kind) (t : State) (w : Coherent K t) (flag : Bool) (i : ℕ) (l : List ℕ) (wl : length l ≡ K.views) → too_many_lines K l ≡ false → Simulates (Mirrors K) (tree_move K t (row.split flag i l)) (row_move K (row_of K t) (row.split flag i l))
unfolding tree_move row_move
step_split K t w flag i l wl lines = step_split_by K t w (refuse'.full t ∷ []) (row.full (row_of K t) ∷ []) (by_limit K t w) flag i l wl lines
