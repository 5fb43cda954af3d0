-- A tree's call and the row's: the same answer, and what each leaves belongs together again. A sound state's row, and the row at a seat.
use Rattle.std.proofs.Math.Path.{◌≡◌, refl, ap}
use Rattle.std.proofs.Common.{sym, ◌∙◌, subst, arith}
use Rattle.std.specs.Prelude.{Bool, List, [], ◌∷◌, ◌++◌, map, ℕ, suc, ◌≤◌, ◌<◌, length, get_or}
use Rattle.std.proofs.Math.Bool.{true, false, cond}
use Rattle.std.proofs.Math.Decide.{dec_lt}
use Rattle.std.proofs.Math.Dec.{leb}
use Rattle.std.proofs.lemmas.List.{length-map}
use borrow.Author.Tests.{ne_eqb, le-leb, lt-leb, leb-false}
use Rattle.model.specs.Kind.{stride}
use Rattle.model.specs.declared.shape.Kind.{Kind}
use Rattle.model.specs.Lists.{sum_by, All, Cause, refusal}
use Rattle.model.specs.Node.{Node, lengths, used}
use Rattle.model.specs.State.{State}
use Rattle.model.specs.Row as row
use Rattle.model.specs.Row.{Row, Entry, entry, Answer, refused, Moved, moved, no_such_id, unless, before, from}
use Rattle.model.specs.Sound.{leaf_in, Coherent, entries_of}
use Rattle.model.specs.Refuse as refuse
use Rattle.model.specs.Calls as calls
use Rattle.model.specs.ById.{with_cursor}
use Rattle.model.specs.declared.head.Cursor.{Cursor}
use Rattle.model_laws.specs.Lists.{all_at_at}
use Rattle.model_tree.specs.Lists.{cat, all_map, all_cat}
use Rattle.model_tree.specs.Levels.{Slot, len}
use Rattle.model_tree.specs.Tree as tree
use Rattle.model_tree.specs.Tree.{order}
use Rattle.model_tree.specs.Edit.{all_mapped}
use Rattle.model_tree.specs.Row.{before_at, from_at}
use Rattle.model_tree.specs.Place.{front, behind}
use Rattle.model_theory.specs.WordTidy.{Tidy, slot_used}
use Rattle.model_theory.specs.LiftTree.{slot_of, slots_of, tree_of}
use Rattle.model_theory.specs.LiftMarks.{get_d_slot}
use Rattle.model_theory.specs.WordNeat.{neat_of}
use Rattle.model_theory.specs.LiftSound.{body_of}
use Rattle.model_theory.specs.LiftEntries.{entry_from, entry_is, entries_row, total_entries, without_entries, split_entries}
use Rattle.model_theory.specs.CallOpen.{EntryFound, entry_found, entry_absent}

-- a coherent state and the row whose entries and limit it has: what Represents says without the bound on line ends
pub record Mirrors (K : Kind) (t : State) (r : Row) : Type 0 where
  pub coherent : Coherent K t
  pub entries : entries_of K t ≡ r.entries
  pub limit : t.head.limit ≡ r.limit

pub record Simulates {S R : Type 0} (Q : S → R → Type 0) (m : Moved S) (n : Moved R) : Type 0 where
  pub same : m.answer ≡ n.answer
  pub kept : Q m.after n.after

abbrev pub row_of : Kind → State → Row
row_of K t = row.row t.head.limit (entries_of K t)

-- the causes by which one entry more has no space, in the tree and in the row: they stop at the same number, and where they stop nothing an entry is free
pub record Space (t : State) (room rowRoom : List Cause) : Type 0 where
  pub same : refusal room ≡ refusal rowRoom
  pub free : refusal rowRoom ≡ 0 → t.head.entries < t.head.limit

-- the row's causes
pub row_passed : (r : Row) (cs : List Cause) (es : List Entry) (a : Answer) → refusal cs ≡ 0 → unless r cs es a ≡ moved (row.row r.limit es) a
unfolding unless
row_passed r cs es a e = rw e

pub row_stopped : (r : Row) (cs : List Cause) (es : List Entry) (a : Answer) (n : ℕ) → refusal cs ≡ suc n → unless r cs es a ≡ moved r (refused (suc n))
unfolding unless
row_stopped r cs es a n e = rw (e, ne_eqb (suc n) 0 (λ z. omega arith))

module _ (K : Kind) (t : State) (w : Coherent K t) where
  pub own : Mirrors K t (row_of K t)
  own = record { coherent = w; entries = refl; limit = refl }

  pub entries_are : entries_of K t ≡ map (entry_from K.views) (tree.row (tree_of (stride K) t))
  entries_are = entries_row K t (neat_of (stride K) t K.effect w) w.leaves_once.below

  pub count_is : length (entries_of K t) ≡ t.head.entries
  count_is = ap length entries_are ∙ length-map (tree.row (tree_of (stride K) t)) (entry_from K.views) ∙ (body_of (stride K) t K.effect w).count

  -- without seats: the limit
  pub by_limit : Space t (refuse.full t ∷ []) (row.full (row_of K t) ∷ [])
  unfolding refusal
  by_limit = record { same = ap (λ (n : ℕ). cond (leb t.head.limit n) 8 0) (sym count_is); free = λ e. fits (leb t.head.limit (length (entries_of K t))) refl e }
    where
      fits : (b : Bool) → leb t.head.limit (length (entries_of K t)) ≡ b → ◌≡◌ {A = ℕ} (cond b 8 0) 0 → t.head.entries < t.head.limit
      fits true q e = absurd (omega arith)
      fits false q e = (let z = leb-false t.head.limit (length (entries_of K t)) q in omega (arith, count_is))

  -- every id is below the count
  pub below : All (λ (x : Slot). x.child < t.head.entries) (tree.row (tree_of (stride K) t))
  below = all_cat (λ (x : Slot). x.child < t.head.entries) (tree_of (stride K) t).body.leaf.slots (order (tree_of (stride K) t))
      (all_map (λ k. k < t.head.leaves) (λ k. All (λ (x : Slot). x.child < t.head.entries) (slots_of (leaf_in (stride K) t k))) (λ k lt. (body_of (stride K) t K.effect w).below k lt) (order (tree_of (stride K) t)) (body_of (stride K) t K.effect w).leaf_in_law)

  pub ids_below : All (λ (e : Entry). e.id < length (entries_of K t)) (entries_of K t)
  ids_below = subst (λ (n : ℕ). All (λ (e : Entry). e.id < n) (entries_of K t)) (sym count_is)
      (subst (All (λ (e : Entry). e.id < t.head.entries)) (sym entries_are) (all_mapped (λ (e : Entry). e.id < t.head.entries) (entry_from K.views) (tree.row (tree_of (stride K) t)) below))

  -- both refuse an id that is not below the count
  pub row_known : (i : ℕ) (cs : List Cause) → i < t.head.entries → refusal (no_such_id (row_of K t) i ∷ cs) ≡ refusal cs
  unfolding refusal
  row_known i cs lt = rw (lt-leb (length (entries_of K t)) i (omega (arith, count_is)))

  pub row_unknown : (i : ℕ) (cs : List Cause) → t.head.entries ≤ i → refusal (no_such_id (row_of K t) i ∷ cs) ≡ 4
  unfolding refusal
  row_unknown i cs le = rw (le-leb (length (entries_of K t)) i (omega (arith, count_is)))

  pub by_id : (i : ℕ) (f : Cursor → Moved State) (cs : List Cause) (es : List Entry) (a : Answer)
      → ((c : EntryFound K t w i) → Simulates (Mirrors K) (f (calls.cursor_at t.head.stamp c.leaf c.slot)) (unless (row_of K t) cs es a))
      → Simulates (Mirrors K) (with_cursor t (calls.cursor K t i) f) (unless (row_of K t) (no_such_id (row_of K t) i ∷ cs) es a)
  unfolding unless
  by_id i f cs es a h = go (dec_lt i t.head.entries)
    where
      go : Dec (i < t.head.entries) → Simulates (Mirrors K) (with_cursor t (calls.cursor K t i) f) (unless (row_of K t) (no_such_id (row_of K t) i ∷ cs) es a)
      go (yes lt) = let c = entry_found K t w i lt in rw (c.is, row_known i cs lt) (h c)
      go (no ge) = rw (entry_absent K t w i (omega arith), row_stopped (row_of K t) (no_such_id (row_of K t) i ∷ cs) es a 3 (row_unknown i cs (omega arith))) (record { same = refl; kept = own })

  -- the row at a seat
  module _ (i : ℕ) (c : EntryFound K t w i) where
    pub entries_at : entries_of K t ≡ map (entry_from K.views) (front c.cur) ++ entry_from K.views c.cur.e ∷ map (entry_from K.views) (behind c.cur)
    entries_at = entries_are ∙ ap (map (entry_from K.views)) c.cur.row ∙ split_entries K.views (front c.cur) c.cur.e (c.cur.F₂ ++ cat (tree_of (stride K) t).body.leaf.slots c.cur.B)

    pub before_is : before i (entries_of K t) ≡ map (entry_from K.views) (front c.cur)
    before_is = ap (before i) entries_at ∙ before_at i (map (entry_from K.views) (front c.cur)) (entry_from K.views c.cur.e) (map (entry_from K.views) (behind c.cur)) (without_entries K.views i (front c.cur) c.cur.apart) c.cur.own

    pub from_is : from i (entries_of K t) ≡ entry_from K.views c.cur.e ∷ map (entry_from K.views) (behind c.cur)
    from_is = ap (from i) entries_at ∙ from_at i (map (entry_from K.views) (front c.cur)) (entry_from K.views c.cur.e) (map (entry_from K.views) (behind c.cur)) (without_entries K.views i (front c.cur) c.cur.apart) c.cur.own

    -- the slot at the seat
    pub slot_is : slot_of (get_or (leaf_in (stride K) t c.leaf).slots c.slot []) ≡ c.cur.e
    slot_is =
        let n : Node = leaf_in (stride K) t c.leaf in
        let td : Tidy (stride K) t.head.fan n = (neat_of (stride K) t K.effect w).leaf_tidy c.leaf c.leaf_in_law in
        let lu : c.slot < length (used n) = (let z : length (slots_of n) ≡ length (used n) = length-map (used n) slot_of in omega (arith, c.cur.inside)) in
        ap slot_of (slot_used (stride K) t.head.fan n td c.slot [] lu) ∙ sym (get_d_slot (used n) c.slot lu) ∙ c.cur.at

    -- it has a length in each view
    pub slot_long : length (get_or (leaf_in (stride K) t c.leaf).slots c.slot []) ≡ stride K
    slot_long =
        let n : Node = leaf_in (stride K) t c.leaf in
        let td : Tidy (stride K) t.head.fan n = (neat_of (stride K) t K.effect w).leaf_tidy c.leaf c.leaf_in_law in
        let lu : c.slot < length (used n) = (let z : length (slots_of n) ≡ length (used n) = length-map (used n) slot_of in omega (arith, c.cur.inside)) in
        ap length (slot_used (stride K) t.head.fan n td c.slot [] lu) ∙ all_at_at (λ y. length y ≡ stride K) c.slot [] (used n) lu td.wide

    -- and these are the row's
    pub slot_lengths : lengths (get_or (leaf_in (stride K) t c.leaf).slots c.slot []) ≡ row.lengths_of i (entries_of K t)
    slot_lengths =
        let x : List ℕ = get_or (leaf_in (stride K) t c.leaf).slots c.slot [] in
        ap (λ (e : Entry). e.lengths) (sym (entry_is K.views x slot_long) ∙ ap (entry_from K.views) slot_is) ∙ sym (ap (λ (es : List Entry). (get_or es 0 (entry i [])).lengths) from_is)

    pub total_before : (v : ℕ) → v < K.views → row.total v (before i (entries_of K t)) ≡ sum_by (len v) (front c.cur)
    total_before v lv = ap (row.total v) before_is ∙ total_entries K.views v (front c.cur) lv
