-- Other lengths for an entry: `set` and `update` on a sound state do what they do on the row.
use Rattle.model.specs.declared.head.Finger.{Finger}
use Rattle.model.specs.declared.way.Broken.{Broken}
use Rattle.std.specs.Prelude.{◌≡◌, Bool, true, false, cond, ltb, eqb, length, Ok, Err, Some, None, Option, Result}
use Rattle.std.proofs.Math.Path.{refl, sym, ap, ap₂, fun_ext}
use Rattle.std.proofs.Common.{◌∙◌, subst, length-drop, lt-ltb, le-ltb, ltb-false}
use mathlib.Core.List.{List, [], ◌∷◌, ◌++◌, map, append_assoc}
use Prim.Native.Nat.{ℕ, suc, ◌+◌, ◌-◌, ◌%◌, ◌^◌, ◌≤◌, ◌<◌}
use Rattle.std.proofs.Math.Decide.{dec_lt}
use native.Mathlib.Omega.{arith}
use Rattle.std.proofs.Math.ListN.{get_or, drop, set, get_or-eq_default}
use Rattle.std.proofs.lemmas.List.{length-map, take-set-le}
use Rattle.model.specs.Kind.{stride, views_of, too_many_lines, crossed}
use Rattle.model.specs.declared.shape.Kind.{Kind}
use Rattle.model.specs.Lists.{sum_by, some, Cause, refusal}
use Rattle.model.specs.Node as node
use Rattle.model.specs.Node.{Node, child, lengths, used, start, minus, with_lengths}
use Rattle.model.specs.State.{State, state, node_at, put_node}
use Rattle.model.specs.Climb.{climb_up}
use Rattle.model.specs.Locate.{changing, rewound}
use Rattle.model.specs.Place.{Change, change, with_finger, replace, climb, summed}
use Rattle.model.specs.Row as row
use Rattle.model.specs.Row.{Entry, entry, Answer, done, refused, unless, before, changed, row_move}
use Rattle.model.specs.Sound.{leaf_in, inner_in, shape_in, Coherent, entries_of}
use Rattle.model.specs.Refuse.{opening, at_cursor, crossed_bounds, past, total_of}
use Rattle.model.specs.Calls as calls
use Rattle.model.specs.declared.head.Cursor.{Cursor}
use Rattle.model.specs.Calls.{cursor_at, resized, resize_causes}
use Rattle.model.specs.ById.{told, tree_move}
use Rattle.model.specs.Answer.{outcome_answer, number_answer}
use Rattle.model_laws.specs.Lists.{all_at_at, length_zip, some_views}
use Rattle.model_laws.specs.Areas.{node_same}
use Rattle.model_theory.specs.RowViews.{none_in, firsts_of}
use Rattle.model_theory.specs.WordFits.{fits}
use Rattle.model_tree.specs.Lists.{sum_by_append}
use Rattle.model_tree.specs.Levels.{Slot, Area, total, len}
use Rattle.model_tree.specs.Insert as insert
use Rattle.model_tree.specs.Update.{set_slots}
use Rattle.model_tree.specs.Carry.{carry}
use Rattle.model_tree.specs.Tree as tree
use Rattle.model_tree.specs.Tree.{Tree, above}
use Rattle.model_tree.specs.Follows.{reals}
use Rattle.model_tree.specs.Calls.{slot_at, set_in, Done, set_done, spot}
use Rattle.model_tree.specs.Place.{front, behind, total_is}
use Rattle.model_theory.specs.WordTidy.{Tidy, tidy_formed, slot_used}
use Rattle.model_theory.specs.LiftTree.{slot_of, slots_of, area_of, tree_of, sum_slots}
use Rattle.model_theory.specs.LiftMarks.{get_d_slot}
use Rattle.model_theory.specs.WordNeat.{Neat, Viewed, neat_of}
use Rattle.model_theory.specs.LiftSound.{body_of}
use Rattle.model_theory.specs.LiftSoundBack.{sound_up}
use Rattle.model_theory.specs.LiftEntries.{firsts, entry_from, total_entries, split_entries}
use Rattle.model_theory.specs.CallOpen.{passed, stopped, few_lines, opens, fresh_at, EntryFound}
use Rattle.model_theory.specs.WalkUp.{way}
use Rattle.model_theory.specs.WordPut.{Keeps, leaf_keeps, inner_keeps, put_same, put_slots}
use Rattle.model_theory.specs.ChangeSums.{minus_at, lengths_at_law, lengths_tidy, lengths_slots, Up, up_of, added, ClimbCarried, climb_up_law}
use Rattle.model_theory.specs.CallRead.{front_small, rank_is}
use Rattle.model_theory.specs.CallSimulates.{Simulates, Mirrors, row_of, row_passed, row_stopped, own, entries_are, by_id, before_is, from_is, slot_is, total_before}

pub viewed_changing : (s k j : ℕ) (h : Option Finger) → Viewed s h → Viewed s (changing k j h)
viewed_changing s k j None v = tt
viewed_changing s k j (Some f) v = go (eqb f.leaf k) (ltb j f.slot)
  where
    go : (a b : Bool) → Viewed s (cond a (cond b (Some (rewound f)) (Some f)) None)
    go true true = v
    go true false = v
    go false b = tt

pub ltb_same : (a b c d : ℕ) → (a < b → c < d) → (c < d → a < b) → ltb a b ≡ ltb c d
ltb_same a b c d f g = go (dec_lt a b)
  where
    go : Dec (a < b) → ltb a b ≡ ltb c d
    go (yes h) = lt-ltb a b h ∙ sym (lt-ltb c d (f h))
    go (no n) = le-ltb a b (omega arith) ∙ sym (le-ltb c d (later (dec_lt c d)))
      where
        later : Dec (c < d) → d ≤ c
        later (yes h) = absurd (n (g h))
        later (no m) = omega arith

-- the row's causes behind the id, and the first number of their tests
abbrev behind_id : Kind → State → ℕ → List ℕ → List Cause
behind_id K t i l = row.crossed_bounds K l ∷ row.past K (changed i l (entries_of K t)) ∷ []

abbrev number_of : Bool → Bool → ℕ
number_of a b = cond a 20 (cond b 7 0)

module _ (K : Kind) (t : State) (w : Coherent K t) (i : ℕ) (c : EntryFound K t w i) (l : List ℕ) (wl : length l ≡ K.views) (lines : too_many_lines K l ≡ false) where
  -- the slot, its lengths, the difference
  x : List ℕ
  x = get_or (leaf_in (stride K) t c.leaf).slots c.slot []

  abbrev pub new : ℕ → ℕ
  new v = get_or l v 0

  delta : List ℕ
  delta = minus l (lengths x)

  nt : Neat (stride K) t
  nt = neat_of (stride K) t K.effect w

  td : Tidy (stride K) t.head.fan (leaf_in (stride K) t c.leaf)
  td = (neat_of (stride K) t K.effect w).leaf_tidy c.leaf c.leaf_in_law

  lu : c.slot < length (used (leaf_in (stride K) t c.leaf))
  lu = (let z : length (slots_of (leaf_in (stride K) t c.leaf)) ≡ length (used (leaf_in (stride K) t c.leaf)) = length-map (used (leaf_in (stride K) t c.leaf)) slot_of in omega (arith, c.cur.inside))

  x_used : x ≡ get_or (used (leaf_in (stride K) t c.leaf)) c.slot []
  unfolding x
  x_used = slot_used (stride K) t.head.fan (leaf_in (stride K) t c.leaf) td c.slot [] lu

  x_long : length (lengths x) ≡ K.views
  x_long = (let z : length x ≡ stride K = ap length x_used ∙ all_at_at (λ y. length y ≡ stride K) c.slot [] (used (leaf_in (stride K) t c.leaf)) lu td.wide in let y = length-drop 1 x in omega arith)

  old_is : (v : ℕ) → get_or (lengths x) v 0 ≡ c.cur.e.lens v
  unfolding x
  old_is v = lengths_at_law x v ∙ ap (λ (y : Slot). y.lens v) (slot_is K t w i c)

  -- the leaf with the new lengths
  node' : Node
  node' = with_lengths c.slot l (leaf_in (stride K) t c.leaf)

  node_tidy : Tidy (stride K) t.head.fan node'
  unfolding node'
  node_tidy = lengths_tidy (stride K) t.head.fan (leaf_in (stride K) t c.leaf) td c.slot l lu (omega arith)

  leaves' : List ℕ
  leaves' = put_node (shape_in (stride K) t) c.leaf node' t.leaves

  leaves_keep : Keeps (shape_in (stride K) t) t.head.leaves leaves'
  unfolding leaves'
  leaves_keep = put_same (shape_in (stride K) t) refl (omega arith) t.head.leaves c.leaf node' t.leaves c.leaf_in_law node_tidy (leaf_keeps (stride K) t nt)

  leaf_area : area_of (shape_in (stride K) t) leaves' ≡ set_slots (tree_of (stride K) t).body.leaf c.leaf (set (slots_of (leaf_in (stride K) t c.leaf)) c.slot (insert.slot_of (slot_at (tree_of (stride K) t) c.leaf c.slot).child new))
  unfolding leaves' node'
  leaf_area =
      put_slots (shape_in (stride K) t) refl (omega arith) t.head.leaves c.leaf node' t.leaves (omega (arith, c.leaf_in_law, nt.leaf_count)) node_tidy (leaf_keeps (stride K) t nt) refl refl
      ∙ ap (set_slots (tree_of (stride K) t).body.leaf c.leaf)
      (lengths_slots (stride K) t.head.fan (leaf_in (stride K) t c.leaf) td c.slot l lu
      ∙ ap (λ (k : ℕ). set (slots_of (leaf_in (stride K) t c.leaf)) c.slot (insert.slot_of k new)) (ap (λ (y : Slot). y.child) (sym (get_d_slot (used (leaf_in (stride K) t c.leaf)) c.slot lu))))

  read_back : node_at (shape_in (stride K) t) c.leaf leaves' ≡ node'
  unfolding leaves'
  read_back = node_same (shape_in (stride K) t) c.leaf t.leaves refl (fits (shape_in (stride K) t) c.leaf t.leaves (omega (arith, c.leaf_in_law, nt.leaf_count)) nt.leaf_area) node' (tidy_formed (stride K) t.head.fan node' node_tidy (omega arith))

  -- the climb above the leaf
  delta_wide : length delta + 1 ≡ stride K
  unfolding delta minus
  delta_wide = (let z = length_zip (λ a b. (a + (2 ^ 32 - b)) % 2 ^ 32) l (lengths x) (wl ∙ sym x_long) in omega arith)

  carried : ClimbCarried (shape_in (stride K) t) delta t.head.inners K.effect t.head.levels (leaf_in (stride K) t c.leaf).parent (leaf_in (stride K) t c.leaf).at (start K.effect c.slot (leaf_in (stride K) t c.leaf)) t.inners
  carried =
      let T : Tree = tree_of (stride K) t in
      let b = c.cur.body in
      climb_up_law (shape_in (stride K) t) refl (omega arith) delta t.head.inners delta_wide K.effect t.head.levels (leaf_in (stride K) t c.leaf).parent (leaf_in (stride K) t c.leaf).at (start K.effect c.slot (leaf_in (stride K) t c.leaf)) t.inners (inner_keeps (stride K) t nt)
      (subst (λ (d : ℕ). Up T.body.inner t.head.inners d (leaf_in (stride K) t c.leaf).parent (leaf_in (stride K) t c.leaf).at) b.deep
      (up_of (total T.body.leaf) T.body.leaf T.body.inner T.body.root t.head.inners c.cur.A c.leaf c.cur.B (above T) b.links (reals t.head.inners b.few (above T) b.inner_in_law)
      (way (total T.body.leaf) T.body.leaf T.body.inner T.body.root t.head.inners c.cur.A c.leaf c.cur.B (above T) b.links b.inner_in_law)))

  -- the state afterwards
  state' : State
  state' = state (with_finger (changing c.leaf c.slot t.head.finger) t.head) leaves' carried.words t.homes

  tree_is : tree_of (stride K) state' ≡ set_in (tree_of (stride K) t) c.leaf c.slot new
  unfolding state' delta
  tree_is =
      let T : Tree = tree_of (stride K) t in
      let e : Slot = slot_at T c.leaf c.slot in
      let f : ℕ → ℕ → ℕ = λ v y. (y + (new v + (4294967296 - e.lens v)) % 4294967296) % 4294967296 in
      let same : added delta ≡ f = fun_ext (λ v. fun_ext (λ y. ap (λ (d : ℕ). (y + d) % 2 ^ 32) (minus_at l (lengths x) v (wl ∙ sym x_long) ∙ ap (λ (o : ℕ). (new v + (2 ^ 32 - o)) % 2 ^ 32) (old_is v ∙ ap (λ (z : Slot). z.lens v) (sym c.cur.at))))) in
      ap₂ (λ (a b : Area). record {
        body = record { leaf = a; inner = b; root = t.head.root.0; next = t.head.inners; levels = t.head.levels };
        homes = λ j. get_or t.homes j 0;
        leaves = t.head.leaves;
        entries = t.head.entries;
        fan = t.head.fan;
        limit = t.head.limit;
        finger = changing c.leaf c.slot t.head.finger;
      })
      leaf_area (carried.area ∙ ap (λ (g : ℕ → ℕ → ℕ). carry g t.head.levels T.body.inner (leaf_in (stride K) t c.leaf).parent (leaf_in (stride K) t c.leaf).at) same)

  neat' : Neat (stride K) state'
  unfolding state'
  neat' = record {
    leaf_area = leaves_keep.long;
    inner_area = carried.keeps.long;
    home_area = nt.home_area;
    leaf_count = nt.leaf_count;
    inner_count = nt.inner_count;
    leaf_tidy = leaves_keep.tidy;
    inner_tidy = carried.keeps.tidy;
    view = viewed_changing (stride K) c.leaf c.slot t.head.finger nt.view;
  }

  -- what the row becomes
  after_row : List Slot
  after_row = front c.cur ++ insert.slot_of c.cur.e.child new ∷ behind c.cur

  sum_after : (v : ℕ) → sum_by (len v) after_row + c.cur.e.lens v ≡ sum_by (len v) (tree.row (tree_of (stride K) t)) + new v
  unfolding after_row sum_by
  sum_after v =
      let a : sum_by (len v) (tree.row (tree_of (stride K) t)) ≡ sum_by (len v) (front c.cur) + (c.cur.e.lens v + sum_by (len v) (behind c.cur)) = ap (sum_by (len v)) c.cur.row ∙ sum_by_append (len v) (front c.cur) (c.cur.e ∷ behind c.cur) in
      let b : sum_by (len v) (front c.cur ++ insert.slot_of c.cur.e.child new ∷ behind c.cur) ≡ sum_by (len v) (front c.cur) + (new v + sum_by (len v) (behind c.cur)) = sum_by_append (len v) (front c.cur) (insert.slot_of c.cur.e.child new ∷ behind c.cur) in
      omega arith

  entries_after : map (entry_from K.views) after_row ≡ changed i l (entries_of K t)
  unfolding after_row firsts
  entries_after =
      split_entries K.views (front c.cur) (insert.slot_of c.cur.e.child new) (behind c.cur)
      ∙ ap (λ (m : List ℕ). map (entry_from K.views) (front c.cur) ++ entry c.cur.e.child m ∷ map (entry_from K.views) (behind c.cur)) (firsts_of K.views l wl)
      ∙ ap₂ (λ (a : List Entry) (k : ℕ). a ++ entry k l ∷ map (entry_from K.views) (behind c.cur)) (sym (before_is K t w i c)) c.cur.own
      ∙ ap (λ (b : List Entry). before i (entries_of K t) ++ entry i l ∷ drop 1 b) (sym (from_is K t w i c))

  total_after : (v : ℕ) → v < K.views → row.total v (changed i l (entries_of K t)) ≡ sum_by (len v) after_row
  total_after v lv = ap (row.total v) (sym entries_after) ∙ total_entries K.views v after_row lv

  -- both count the total alike
  past_is : some (λ v. ltb (4294967295 + get_or (lengths x) v 0) (total_of K t v + new v)) (views_of K) ≡ some (λ v. ltb 4294967295 (row.total v (changed i l (entries_of K t)))) (views_of K)
  past_is = some_views K.views (λ v. ltb (4294967295 + get_or (lengths x) v 0) (total_of K t v + new v)) (λ v. ltb 4294967295 (row.total v (changed i l (entries_of K t))))
      (λ v lv. (let a = total_after v lv in let b = sum_after v in let d = old_is v in
      let e : total_of K t v ≡ sum_by (len v) (tree.row (tree_of (stride K) t)) = sym (sum_slots v (used (inner_in (stride K) t t.head.root.0))) ∙ total_is (tree_of (stride K) t) (body_of (stride K) t K.effect w) v in
      ltb_same (4294967295 + get_or (lengths x) v 0) (total_of K t v + new v) 4294967295 (row.total v (changed i l (entries_of K t))) (λ h. omega arith) (λ h. omega arith)))

  -- where no total passes u32
  module _ (ok : some (λ v. ltb 4294967295 (row.total v (changed i l (entries_of K t)))) (views_of K) ≡ false) where
    small : (v : ℕ) → sum_by (len v) after_row < 4294967296
    small v = go (dec_lt v K.views)
      where
        go : Dec (v < K.views) → sum_by (len v) after_row < 4294967296
        go (yes lv) = (let z = ltb-false 4294967295 (row.total v (changed i l (entries_of K t))) (none_in (λ v. ltb 4294967295 (row.total v (changed i l (entries_of K t)))) K.views ok v lv) in omega (arith, total_after v lv))
        go (no ge) = (let z : new v ≡ 0 = get_or-eq_default l 0 {n = v} (omega arith) in let y = sum_after v in omega (arith, (body_of (stride K) t K.effect w).totals v))

    done_is : Done K.effect (spot (tree_of (stride K) t) c.leaf c.slot) (front c.cur) (set_in (tree_of (stride K) t) c.leaf c.slot new) after_row
    unfolding after_row
    done_is = set_done K.effect (tree_of (stride K) t) (spot (tree_of (stride K) t) c.leaf c.slot) (front c.cur) c.cur.e (behind c.cur) c.cur.room new c.cur.inside small

    sound' : Coherent K state'
    sound' = sound_up (stride K) state' K.effect neat' (subst (tree.Sound K.effect) (sym tree_is) done_is.sound)

    entries' : entries_of K state' ≡ changed i l (entries_of K t)
    entries' = entries_are K state' sound' ∙ ap (λ (T : Tree). map (entry_from K.views) (tree.row T)) tree_is ∙ ap (map (entry_from K.views)) done_is.is ∙ entries_after

    stands' : Mirrors K state' (row.row t.head.limit (changed i l (entries_of K t)))
    unfolding state'
    stands' = record { coherent = sound'; entries = entries'; limit = refl }

  -- the change as the call makes it
  resized_is : resized K t (cursor_at t.head.stamp c.leaf c.slot) l ≡ (change 0 state' c.leaf c.slot, sum_by (len K.effect) (front c.cur))
  unfolding climb replace state' leaves' node' x delta
  resized_is =
      let g = shape_in (stride K) t in
      let st : start K.effect c.slot node' ≡ start K.effect c.slot (leaf_in (stride K) t c.leaf) = ap (node.total K.effect) (take-set-le c.slot (leaf_in (stride K) t c.leaf).slots c.slot (child (get_or (leaf_in (stride K) t c.leaf).slots c.slot []) ∷ l) (omega arith)) in
      let n : ℕ = sum_by (len K.effect) (front c.cur) in
      let small : n % 2 ^ 32 ≡ n = (let z : n < 4294967296 = front_small K t w i c K.effect in omega arith) in
      let r : Change = replace g t c.leaf c.slot l in
      ap (λ (m : Node). summed g r (climb_up g K.effect delta t.head.levels m.parent m.at (start K.effect c.slot m) t.inners)) read_back
      ∙ ap (λ (a : ℕ). summed g r (climb_up g K.effect delta t.head.levels (leaf_in (stride K) t c.leaf).parent (leaf_in (stride K) t c.leaf).at a t.inners)) st
      ∙ ap (summed g r) (carried.is ∙ ap (λ (z : Result ℕ Broken). (z, carried.words)) (rank_is K t w i c K.effect))
      ∙ ap (λ (m : ℕ). (change 0 (state r.state.head r.state.leaves carried.words r.state.homes) c.leaf c.slot, m)) small

  -- the causes of both calls come to the same
  abbrev at : Cursor
  at = cursor_at t.head.stamp c.leaf c.slot

  abbrev over : Bool
  over = some (λ v. ltb 4294967295 (row.total v (changed i l (entries_of K t)))) (views_of K)

  resize_causes_law : refusal (resize_causes K t at l) ≡ refusal (behind_id K t i l)
  unfolding refusal x
  resize_causes_law =
      few_lines K l (opening K t ++ at_cursor K t at ++ crossed_bounds K l ∷ past K t (lengths x) l ∷ []) lines
      ∙ ap refusal (append_assoc (opening K t) (at_cursor K t at) (crossed_bounds K l ∷ past K t (lengths x) l ∷ []))
      ∙ opens K t w (at_cursor K t at ++ crossed_bounds K l ∷ past K t (lengths x) l ∷ []) ∙ fresh_at K t w c.leaf c.slot (crossed_bounds K l ∷ past K t (lengths x) l ∷ []) c.leaf_in_law c.slot_in_law
      ∙ ap (number_of (crossed K l)) past_is

  -- a call that answers A, where the row answers a
  module _ {A : Type 0} (refuse : ℕ → A) (answer : ℕ → A) (say : A → Answer) (a : Answer) (says : (n : ℕ) → say (refuse n) ≡ refused n) (right : say (answer (sum_by (len K.effect) (front c.cur))) ≡ a) where
    abbrev answered : calls.Reply A
    answered = calls.settled t (resized K t at l).0 refuse (answer (resized K t at l).1)

    abbrev refusing : ℕ → calls.Reply A
    refusing n = calls.reply t (refuse n)

    resize_step : Simulates (Mirrors K) (told (calls.unless (resize_causes K t at l) refusing answered) say) (unless (row_of K t) (behind_id K t i l) (changed i l (entries_of K t)) a)
    unfolding refusal
    resize_step = go (crossed K l) refl over refl
      where
        number : {p q : Bool} → crossed K l ≡ p → over ≡ q → refusal (behind_id K t i l) ≡ number_of p q
        number d e = rw (d, e)

        stop : (n : ℕ) → refusal (behind_id K t i l) ≡ suc n → Simulates (Mirrors K) (told (calls.unless (resize_causes K t at l) refusing answered) say) (unless (row_of K t) (behind_id K t i l) (changed i l (entries_of K t)) a)
        stop n z = rw (stopped (resize_causes K t at l) refusing answered n (resize_causes_law ∙ z), row_stopped (row_of K t) (behind_id K t i l) (changed i l (entries_of K t)) a n z) (record { same = says (suc n); kept = own K t w })

        go : (p : Bool) → crossed K l ≡ p → (q : Bool) → over ≡ q → Simulates (Mirrors K) (told (calls.unless (resize_causes K t at l) refusing answered) say) (unless (row_of K t) (behind_id K t i l) (changed i l (entries_of K t)) a)
        go true d q e = stop 19 (number d e)
        go false d true e = stop 6 (number d e)
        go false d false e =
            let z : refusal (behind_id K t i l) ≡ 0 = number d e in
            rw (passed (resize_causes K t at l) refusing answered (resize_causes_law ∙ z), row_passed (row_of K t) (behind_id K t i l) (changed i l (entries_of K t)) a z, resized_is)
            (record { same = right; kept = stands' e })

module _ (K : Kind) (ok : K.effect < K.views) (t : State) (w : Coherent K t) where
  pub step_set : (i : ℕ) (l : List ℕ) (wl : length l ≡ K.views) → too_many_lines K l ≡ false → Simulates (Mirrors K) (tree_move K t (row.set_lengths i l)) (row_move K (row_of K t) (row.set_lengths i l))
  unfolding tree_move row_move calls.set_lengths
  step_set i l wl lines = by_id K t w i (λ c. told (calls.set_lengths K t c l) outcome_answer) (behind_id K t i l) (changed i l (entries_of K t)) (done [])
      (λ c. resize_step K t w i c l wl lines Err (λ n. (Ok tt)) outcome_answer (done []) (λ n. refl) refl)

  pub step_update : (i : ℕ) (l : List ℕ) (wl : length l ≡ K.views) → too_many_lines K l ≡ false → Simulates (Mirrors K) (tree_move K t (row.update i l)) (row_move K (row_of K t) (row.update i l))
  unfolding tree_move row_move calls.update
  step_update i l wl lines = by_id K t w i (λ c. told (calls.update K t c l) number_answer) (behind_id K t i l) (changed i l (entries_of K t)) (done (row.total K.effect (before i (entries_of K t)) ∷ []))
      (λ c. resize_step K t w i c l wl lines Err Ok number_answer (done (row.total K.effect (before i (entries_of K t)) ∷ [])) (λ n. refl) (ap (λ (n : ℕ). done (n ∷ [])) (sym (total_before K t w i c K.effect (ok)))))
