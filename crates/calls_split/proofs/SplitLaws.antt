-- What split_entry answers. Assumes nothing.
use Rattle.model.specs.declared.number.EntryId.{EntryId}
use Rattle.model.specs.Numbered.{Numbered, refusal_number}
use Rattle.model.specs.declared.refusal.Refusal.{Refusal}
use Rattle.std.specs.Prelude.{Ok, Err}
use Rattle.std.proofs.Common.{◌≡◌, ℕ, ◌-◌, ◌<◌, ◌≤◌, Bool, true, false, List, [], ◌∷◌, ◌++◌, get_or, sym, refl, ap, ◌∙◌, ap₂, arith}
use Rattle.model.specs.Lists.{Cause, cause, refusal}
use Rattle.model.specs.Kind.{too_many_lines}
use Rattle.model.specs.Length.{lengths_in}
use Rattle.model.specs.Node.{lengths, child_split}
use Rattle.model.specs.State.{State, state, next_stamp, node_at}
use Rattle.model.specs.Place.{Change, change, divide}
use Rattle.model.specs.Refuse.{shape_of, opening, at_cursor, too_much, hollow_part, crossed_parts}
use Rattle.model.specs.Calls.{Reply, reply, settled, slot_at, divided_at, split_causes, split_by}
use Rattle.model.specs.declared.shape.Kind.{Kind}
use Rattle.model.specs.declared.shape.Shape.{Shape}
use Rattle.model.specs.declared.head.Cursor.{Cursor}
use Rattle.model.specs.declared.head.Head.{Head}
use Rattle.tree_place.specs.Room.{settled_in, Entering}
use Rattle.tree_place.proofs.LevelLaws.{entered_in}
use Rattle.tree_place.proofs.CallLaws.{settled_again}
use Rattle.tree_open.proofs.Causes.{one_cause, opened_first, opened_next, opened_number, opened_zero, opened_stop, opened_more, good_number, good_shape, good_front, good_tail, call_refused, call_good}
use Rattle.tree_open.proofs.Refusals.{some_number}
use Rattle.tree_open.proofs.CursorLaws.{at_numbered, cursor_ready, own_lengths}
use Rattle.tree_open.proofs.WidthLaws.{own_shape, own_views, more_same, hollow_same}
use Rattle.tree_open.specs.Lengths.{more_in, hollow_in}
use Rattle.tree_open.specs.Open.{opened_by}
use Rattle.tree_open.specs.Ready.{CursorReady}

-- what `open_split` answers: 10 where there are too many line ends
pub split_many : (K : Kind) (causes : List Cause) (s : State) (c : Cursor) (l : List ℕ) (m : Bool) → m ≡ too_many_lines K l → m ≡ true → Err 10 ≡ opened_by (split_causes K causes s c l) (shape_of K s.head)
split_many K causes s c l m em h = sym (opened_first 9 _ _ _ (sym em ∙ h))

-- else, from what `open_at` answered; x holds the lengths that leave
module _ (K : Kind) (causes : List Cause) (s : State) (c : Cursor) (x : List ℕ) (m : Bool) (em : m ≡ too_many_lines K (lengths_in K.views x)) (few : m ≡ false) where
  abbrev given : List ℕ
  given = lengths_in K.views x

  behind : opened_by (split_causes K causes s c given) (shape_of K s.head)
      ≡ opened_by (opening K s ++ at_cursor K s c ++ too_much K given (lengths (slot_at K s c)) ∷ hollow_part K given (lengths (slot_at K s c)) ∷ crossed_parts K given (lengths (slot_at K s c)) ∷ causes) (shape_of K s.head)
  behind = opened_next 10 _ _ _ (sym em ∙ few)

  pub split_refused : (n : ℕ) → Err n ≡ opened_by (opening K s ++ at_cursor K s c) (shape_of K s.head) → Err n ≡ opened_by (split_causes K causes s c given) (shape_of K s.head)
  split_refused n d = sym (behind ∙ opened_stop (opening K s ++ at_cursor K s c) _ _ n (sym d))

  -- y holds the entry's lengths as they were read
  module _ (g : Shape) (d : Ok g ≡ opened_by (opening K s ++ at_cursor K s c) (shape_of K s.head)) (y : List ℕ) (ey : lengths_in (g.stride - 1) y ≡ lengths (get_or (node_at g c.leaf.0 s.leaves).slots c.slot []))
      (t : Bool) (et : t ≡ more_in (g.stride - 1) (lengths_in (g.stride - 1) x) (lengths_in (g.stride - 1) y)) where
    same : shape_of K s.head ≡ g
    same = good_shape (opening K s ++ at_cursor K s c) _ g (sym d)

    -- a test of what leaves and of what the entry has
    by_views : (f : List ℕ → List ℕ → Cause) → (f (lengths_in (g.stride - 1) x) (lengths_in (g.stride - 1) y)).applies ≡ (f given (lengths (slot_at K s c))).applies
    by_views f =
        ap₂ (λ (u v : List ℕ). (f u v).applies) (ap (λ (n : ℕ). lengths_in n x) (own_views K s.head g (sym same)))
        (own_lengths K s c g (lengths_in (g.stride - 1) y) same ey)

    here : t ≡ (too_much K given (lengths (slot_at K s c))).applies
    here = et ∙ more_same K s.head g (sym same) (lengths_in (g.stride - 1) x) (lengths_in (g.stride - 1) y) ∙ by_views (too_much K)

    rest : opened_by (split_causes K causes s c given) (shape_of K s.head)
        ≡ opened_by (too_much K given (lengths (slot_at K s c)) ∷ hollow_part K given (lengths (slot_at K s c)) ∷ crossed_parts K given (lengths (slot_at K s c)) ∷ causes) (shape_of K s.head)
    rest = behind ∙ opened_more (opening K s ++ at_cursor K s c) _ _ g (at_numbered K s c) (sym d)

    pub split_much : t ≡ true → Err 6 ≡ opened_by (split_causes K causes s c given) (shape_of K s.head)
    split_much h = sym (rest ∙ opened_first 5 _ _ _ (sym here ∙ h))

    module _ (h : t ≡ false) (p : Bool) (ep : p ≡ hollow_in (g.stride - 1) (lengths_in (g.stride - 1) x) (lengths_in (g.stride - 1) y)) where
      parts : p ≡ (hollow_part K given (lengths (slot_at K s c))).applies
      parts = ep ∙ hollow_same K s.head g (sym same) (lengths_in (g.stride - 1) x) (lengths_in (g.stride - 1) y) ∙ by_views (hollow_part K)

      next : opened_by (split_causes K causes s c given) (shape_of K s.head) ≡ opened_by (hollow_part K given (lengths (slot_at K s c)) ∷ crossed_parts K given (lengths (slot_at K s c)) ∷ causes) (shape_of K s.head)
      next = rest ∙ opened_next 6 _ _ _ (sym here ∙ h)

      pub split_hollow : p ≡ true → Err 17 ≡ opened_by (split_causes K causes s c given) (shape_of K s.head)
      split_hollow q = sym (next ∙ opened_first 16 _ _ _ (sym parts ∙ q))

      module _ (k : p ≡ false) (z : Bool) (ez : z ≡ (crossed_parts K given (lengths_in K.views y)).applies) where
        own : lengths_in K.views y ≡ lengths (slot_at K s c)
        own = ap (λ (n : ℕ). lengths_in n y) (sym (own_views K s.head g (sym same))) ∙ own_lengths K s c g (lengths_in (g.stride - 1) y) same ey

        bounds : z ≡ (crossed_parts K given (lengths (slot_at K s c))).applies
        bounds = ez ∙ ap (λ (v : List ℕ). (crossed_parts K given v).applies) own

        beyond : opened_by (split_causes K causes s c given) (shape_of K s.head) ≡ opened_by (crossed_parts K given (lengths (slot_at K s c)) ∷ causes) (shape_of K s.head)
        beyond = next ∙ opened_next 17 _ _ _ (sym parts ∙ k)

        pub split_crossed : z ≡ true → Err 20 ≡ opened_by (split_causes K causes s c given) (shape_of K s.head)
        split_crossed q = sym (beyond ∙ opened_first 19 _ _ _ (sym bounds ∙ q))

        module _ (straight : z ≡ false) where
          last : opened_by (split_causes K causes s c given) (shape_of K s.head) ≡ opened_by causes (shape_of K s.head)
          last = beyond ∙ opened_next 20 _ _ _ (sym bounds ∙ straight)

          pub split_full_law : (why : Refusal) → refusal causes ≡ refusal_number why → Err (refusal_number why) ≡ opened_by (split_causes K causes s c given) (shape_of K s.head)
          split_full_law why q = sym (last ∙ opened_number causes _ _ q (some_number why))

          pub split_good : refusal causes ≡ 0 → Ok g ≡ opened_by (split_causes K causes s c given) (shape_of K s.head)
          split_good q = sym (last ∙ opened_zero causes _ q ∙ ap Ok same)

-- what is known where `open_split` gives no number; room is the number for want of space
module _ (K : Kind) (w : (1 ≤ K.views) × (K.views ≤ 3)) (s : State) (c : Cursor) (l : List ℕ) (room : ℕ) (some : room ≡ 0 → s.head.entries < s.head.limit) (g : Shape)
    (e : Ok g ≡ opened_by (split_causes K (cause room true ∷ []) s c l) (shape_of K s.head)) where
  abbrev spaceless : List Cause
  spaceless = cause room true ∷ []

  behind_lines : opened_by (opening K s ++ at_cursor K s c ++ too_much K l (lengths (slot_at K s c)) ∷ hollow_part K l (lengths (slot_at K s c)) ∷ crossed_parts K l (lengths (slot_at K s c)) ∷ spaceless) (shape_of K s.head) ≡ Ok g
  behind_lines = good_tail 9 (too_many_lines K l) _ (shape_of K s.head) g (sym e)

  front : opened_by (opening K s ++ at_cursor K s c) (shape_of K s.head) ≡ Ok g
  front = good_front (opening K s ++ at_cursor K s c) _ (shape_of K s.head) g behind_lines

  split_ready : CursorReady K s c g
  split_ready = cursor_ready K w s c g _ refl front

  no_number : opened_by spaceless (shape_of K s.head) ≡ Ok g
  no_number = good_tail 19 _ _ _ g (good_tail 16 _ _ _ g (good_tail 5 _ _ _ g (sym (opened_more (opening K s ++ at_cursor K s c) _ _ g (at_numbered K s c) front) ∙ behind_lines)))

  below_limit : s.head.entries < s.head.limit
  below_limit = some (sym (one_cause room) ∙ good_number spaceless _ g no_number)

  few_entries : s.head.entries < 65536
  few_entries = omega (arith, below_limit, split_ready.ready.limit_most)

  pub divide_in_law : (x : List ℕ) → get_or x 0 0 ≡ s.head.entries
      → Entering K.views g s.head s.leaves s.inners s.homes c.leaf.0 x × (c.slot < (node_at g c.leaf.0 s.leaves).len)
  divide_in_law x next =
      let h = split_ready in
      let r = h.ready in (
        record {
          same = sym (own_shape K s.head g r.same);
          fits = record { shaped = r.shaped; leaves = r.leaf_area; inners = r.inner_area };
          leaves = r.leaves;
          inners = r.inners;
          levels_least = r.levels_least;
          levels_most = r.levels_most;
          home = omega (arith, below_limit, r.home_area);
          few = omega (arith, few_entries);
          leaf = h.leaf;
          slots = h.few;
          next = next;
        },
        h.slot,
      )

  -- an entry that was divided stands in a slot that the leaf has
  pub answer_in : (flag : Bool) (r : Change) → r ≡ settled_in s.head (divide g flag s c.leaf.0 c.slot l) → r.number ≡ 0 → r.slot < 4294967295
  unfolding divide
  answer_in flag r er h =
      let i = entered_in g (λ j. child_split flag j (s.head.entries ∷ l)) 1 s c.leaf.0 c.slot r er h in
      omega (arith, i.1, split_ready.ready.shaped.few)

-- the call
module _ (K : Kind) (causes : List Cause) (s : State) (c : Cursor) (l : List ℕ) (flag : Bool) where
  abbrev answer : Change → Numbered (EntryId × Cursor × Cursor)
  answer r = divided_at s.head.entries (next_stamp s.head.stamp) r.leaf r.slot

  abbrev divided_by : Shape → Reply (Numbered (EntryId × Cursor × Cursor))
  divided_by g = let r = divide g flag s c.leaf.0 c.slot l in settled s r Err (answer r)

  pub entry_refused : (n : ℕ) → Err n ≡ opened_by (split_causes K causes s c l) (shape_of K s.head) → reply s (Err n) ≡ split_by K causes s c l flag
  unfolding split_by
  entry_refused n e = call_refused (λ (m : ℕ). reply s (Err m)) divided_by (split_causes K causes s c l) (shape_of K s.head) _ e n refl

  module _ (g : Shape) (e : Ok g ≡ opened_by (split_causes K causes s c l) (shape_of K s.head)) where
    -- the change as `divide` settles it
    good : (r : Change) → r ≡ settled_in s.head (divide g flag s c.leaf.0 c.slot l) → settled s r Err (answer r) ≡ split_by K causes s c l flag
    unfolding split_by
    good r er =
        call_good (λ (m : ℕ). reply s (Err m)) divided_by (split_causes K causes s c l) (shape_of K s.head) _ e g refl _
        (settled_again s Err answer (divide g flag s c.leaf.0 c.slot l) r er)

    pub entry_broken : (ls xs hs : List ℕ) → change 9 (state s.head ls xs hs) 0 0 ≡ settled_in s.head (divide g flag s c.leaf.0 c.slot l)
        → reply (state s.head ls xs hs) (Err 9) ≡ split_by K causes s c l flag
    entry_broken ls xs hs er = good _ er

    pub entry_whole : (h1 : Head) (ls xs hs : List ℕ) (k i : ℕ) → change 0 (state h1 ls xs hs) k i ≡ settled_in s.head (divide g flag s c.leaf.0 c.slot l)
        → (a : Numbered (EntryId × Cursor × Cursor)) → a ≡ divided_at s.head.entries (next_stamp s.head.stamp) k i → reply (state h1 ls xs hs) a ≡ split_by K causes s c l flag
    entry_whole h1 ls xs hs k i er a q = ap (reply (state h1 ls xs hs)) q ∙ good _ er
