-- A list that goes by ids sees no difference between two trees that differ in the stamp alone: on any tree, sound or not, each call gets the same
-- answer, and what it leaves differs in the stamp alone. Any stamp is sound.
use Rattle.model.specs.declared.number.LeafNo.{LeafNo}
use Rattle.model.specs.declared.number.EntryId.{EntryId}
use Rattle.std.specs.declared.cmp.Ordering.{Ordering}
use Rattle.model.specs.declared.way.Broken.{Broken}
use Rattle.model.specs.Numbered.{Numbered}
use Rattle.std.specs.Prelude.{◌≡◌, Bool, true, false, cond, ◌&&◌, ℕ, ◌+◌, ◌<◌, ltb, eqb, Ok, Err, Some, None, Option, Result}
use Rattle.std.proofs.Math.Path.{refl, ap, ap₂, subst}
use Rattle.std.proofs.Common.{sym, ◌∙◌, eq-eqb}
use mathlib.Core.List.{List, [], ◌∷◌, ◌++◌}
use Rattle.std.proofs.Math.Dec.{leb}
use Rattle.std.proofs.Math.ListN.{get_or}
use Rattle.model.specs.declared.shape.Kind.{Kind}
use Rattle.model.specs.Kind.{stride}
use Rattle.model.specs.Lists.{All, Cause, refusal}
use Rattle.model.specs.Node.{lengths, minus, used, index_from}
use Rattle.model.specs.State.{State, next_stamp, node_at}
use Rattle.model.specs.Climb.{first_down, last_down, next_up}
use Rattle.model.specs.Locate.{served_by, from_root, effect_at, prepare_at}
use Rattle.model.specs.Place as place
use Rattle.model.specs.Place.{Change}
use Rattle.model.specs.Answer.{outcome_answer, number_answer, compared_answer, inserted_answer}
use Rattle.model.specs.Refuse as refuse'
use Rattle.model.specs.Refuse.{shape_of, opening, at_cursor, stale}
use Rattle.model.specs.Row as row
use Rattle.model.specs.Row.{Row, Call, Answer, Moved, moved, refused, no_entry, overlong, row_step}
use Rattle.model.specs.ById.{with_cursor, with_target, standing_id_answer, next_answer, located_answer, id_answer, divided_id_answer, told, tree_move, tree_step}
use Rattle.model.specs.Calls as calls
use Rattle.model.specs.Calls.{Reply, cursor_at}
use Rattle.model.specs.Sound.{Sound}
use Rattle.model.specs.Audit.{is_sound, audit}
use Rattle.model.specs.Promise.{InWords, answers, finally, Represents}
use Rattle.model.specs.Stamp.{restamped, AnyStamp, SameById}
use Rattle.model.specs.declared.head.Cursor.{Cursor}
use Rattle.model.specs.declared.head.Finger.{Finger}
use Rattle.model.specs.Locate.{Search}
use Rattle.model_theory.specs.WordNeat.{Neat, neat_of}
use Rattle.model_theory.specs.LiftSound.{sound_of}
use Rattle.model_theory.specs.LiftSoundBack.{sound_up}
use Rattle.model_theory.specs.CallSimulates.{entries_are}
use Rattle.model_theory.specs.TopById.{runs_alike}
use Rattle.model_theory.specs.AuditExactly.{audit_exactly}
use Rattle.model_theory.specs.StampTwins.{both, Twins, Climbed, replace_twins, place_twins, divide_twins, climb_twins}

-- calls ---------------------------------------------------------------------------------------------------------------------------------------

-- the same answer, and a state that differs in the stamp alone
record Moves (a b : Moved State) : Type 0 where
  stamp : ℕ
  after : b.after ≡ restamped stamp a.after
  same : b.answer ≡ a.answer

module _ (m : ℕ) (s : State) where
  still : (a b : Answer) → b ≡ a → Moves (moved s a) (moved (restamped m s) b)
  still a b e = record { stamp = m; after = refl; same = e }

  module _ {A : Type 0} (f : A → Answer) (refuse : ℕ → A) where
    settled_moves : (r q : Change) → Twins r q → (a b : A) → f b ≡ f a → Moves (told (calls.settled s r refuse a) f) (told (calls.settled (restamped m s) q refuse b) f)
    settled_moves r q t a b e = subst (λ (z : Change). Moves (told (calls.settled s r refuse a) f) (told (calls.settled (restamped m s) z refuse b) f)) (sym t.is)
        (both (λ (x y : Reply A). Moves (told x f) (told y f)) (eqb r.number 0) (record { stamp = t.stamp; after = refl; same = e }) (record { stamp = m; after = refl; same = refl }))

    unless_moves : (cs ds : List Cause) → ds ≡ cs → (x y : Reply A) → Moves (told x f) (told y f)
        → Moves (told (calls.unless cs (λ n. calls.reply s (refuse n)) x) f) (told (calls.unless ds (λ n. calls.reply (restamped m s) (refuse n)) y) f)
    unless_moves cs ds e x y h = subst (λ (es : List Cause). Moves (told (calls.unless cs (λ n. calls.reply s (refuse n)) x) f) (told (calls.unless es (λ n. calls.reply (restamped m s) (refuse n)) y) f)) (sym e)
        (both (λ (x y : Reply A). Moves (told x f) (told y f)) (eqb (refusal cs) 0) h (record { stamp = m; after = refl; same = refl }))

module _ (K : Kind) (m : ℕ) (s : State) where
  abbrev s' : State
  s' = restamped m s

  -- a cursor of each tree, at one slot
  abbrev here : ℕ → ℕ → Cursor
  here k j = cursor_at s.head.stamp k j

  abbrev there : ℕ → ℕ → Cursor
  there k j = cursor_at m k j

  stale_same : (k j : ℕ) → stale K s' (there k j) ≡ stale K s (here k j)
  stale_same k j = rw (eq-eqb m m refl, eq-eqb s.head.stamp s.head.stamp refl)

  at_same : (k j : ℕ) → at_cursor K s' (there k j) ≡ at_cursor K s (here k j)
  at_same k j = rw (eq-eqb m m refl, eq-eqb s.head.stamp s.head.stamp refl)

  opening_same : opening K s' ≡ opening K s
  unfolding opening
  opening_same = refl

  -- what the causes of a call on a cursor leave
  past_same : {A : Type 0} (k j : ℕ) (refuse : ℕ → A) (a : A) → calls.unless (opening K s' ++ at_cursor K s' (there k j)) refuse a ≡ calls.unless (opening K s ++ at_cursor K s (here k j)) refuse a
  past_same k j refuse a = ap₂ (λ (x y : List Cause). calls.unless (x ++ y) refuse a) opening_same (at_same k j)

  id_same : (k j : ℕ) → calls.id K s' (there k j) ≡ calls.id K s (here k j)
  unfolding calls.id
  id_same k j = past_same k j Err _

  -- a call on a cursor by its id
  with_moves : (i : ℕ) (f f' : Cursor → Moved State) → ((k j : ℕ) → Moves (f (here k j)) (f' (there k j))) → Moves (with_cursor s (calls.cursor K s i) f) (with_cursor s' (calls.cursor K s' i) f')
  unfolding calls.cursor opening
  with_moves i f f' h =
      let k = get_or s.homes i 0 in
      let n = node_at (shape_of K s.head) k s.leaves in
      both At (eqb (refusal (opening K s ++ refuse'.no_such_id s i ∷ [])) 0) (both At (ltb k s.head.leaves && leb n.len s.head.fan) (found k (index_from i 0 (used n))) (refusing 9)) (refusing (refusal (opening K s ++ refuse'.no_such_id s i ∷ [])))
    where
      At : Numbered Cursor → Numbered Cursor → Type 0
      At a b = Moves (with_cursor s a f) (with_cursor s' b f')

      refusing : (n : ℕ) → At (Err n) (Err n)
      refusing n = still m s (refused n) (refused n) refl

      found : (k : ℕ) (p : Option ℕ) → At (calls.standing_in s.head.stamp k p) (calls.standing_in m k p)
      found k (Some j) = h k j
      found k None = refusing 9

  reset_moves : (l : List ℕ) → Moves (told (calls.reset K s l) outcome_answer) (told (calls.reset K s' l) outcome_answer)
  unfolding calls.reset calls.begun
  reset_moves l = unless_moves m s outcome_answer Err (calls.make_causes K s.head.fan s.head.limit l s.leaves s.inners s.homes) _ refl
      (calls.reply (calls.begun K s.head.fan s.head.limit (next_stamp s.head.stamp) l s.leaves s.inners s.homes) (Ok tt))
      (calls.reply (calls.begun K s.head.fan s.head.limit (next_stamp m) l s.leaves s.inners s.homes) (Ok tt))
      (record { stamp = next_stamp m; after = refl; same = refl })

  -- calls that change
  placed_twins : (t t' : Option Cursor) (l : List ℕ) → Twins (calls.aim K s t) (calls.aim K s' t') → Climbed (shape_of K s.head) (calls.placed K s t l) (calls.placed K s' t' l)
  placed_twins t t' l h = climb_twins (shape_of K s.head) K.effect l _ _ (aimed (calls.aim K s t) (calls.aim K s' t') h)
    where
      put : State → Change → Change
      put u r = cond (eqb r.number 0) (place.place (shape_of K s.head) u r.leaf r.slot l) r

      aimed : (r q : Change) → Twins r q → Twins (put s r) (put s' q)
      aimed r q t = subst (λ (z : Change). Twins (put s r) (put s' z)) (sym t.is) (both Twins (eqb r.number 0) (place_twins (shape_of K s.head) m s r.leaf r.slot l) (record { stamp = t.stamp; is = refl }))

  insert_moves : (t t' : Option Cursor) (l : List ℕ) → Twins (calls.aim K s t) (calls.aim K s' t') → calls.target_causes K s' t' ≡ calls.target_causes K s t
      → Moves (told (calls.insert K s t l) inserted_answer) (told (calls.insert K s' t' l) inserted_answer)
  unfolding calls.insert_by
  insert_moves t t' l h e =
      let c = placed_twins t t' l h in
      unless_moves m s inserted_answer Err (calls.insert_causes K (refuse'.full s ∷ []) s t l) (calls.insert_causes K (refuse'.full s' ∷ []) s' t' l)
      (ap₂ (λ (a b : List Cause). refuse'.many_lines K l ∷ (a ++ b ++ refuse'.crossed_bounds K l ∷ refuse'.past K s [] l ∷ refuse'.full s ∷ [])) opening_same e) _ _
      (settled_moves m s inserted_answer Err (calls.placed K s t l).0 (calls.placed K s' t' l).0 c.twins _ _ (ap (λ (n : ℕ). inserted_answer (Ok (calls.entry_id s.head.entries, n))) c.same))

  end_twins : (k : Result (Option LeafNo) Broken) → Twins (calls.end_of K s k) (calls.end_of K s' k)
  end_twins (Ok (Some k)) = record { stamp = m; is = refl }
  end_twins (Ok None) = record { stamp = m; is = refl }
  end_twins (Err _) = record { stamp = m; is = refl }

  target_moves : (i : ℕ) (l : List ℕ) → Moves (with_target K s i (λ t. told (calls.insert K s t l) inserted_answer)) (with_target K s' i (λ t. told (calls.insert K s' t l) inserted_answer))
  target_moves i l = both Moves (eqb i no_entry)
      (insert_moves None None l (end_twins (last_down (shape_of K s.head) s.head.levels s.head.root.0 s.inners)) refl)
      (with_moves i (λ c. told (calls.insert K s (Some c) l) inserted_answer) (λ c. told (calls.insert K s' (Some c) l) inserted_answer)
      (λ k j. insert_moves (Some (here k j)) (Some (there k j)) l (record { stamp = m; is = refl }) (at_same k j)))

  split_moves : (flag : Bool) (l : List ℕ) (k j : ℕ) → Moves (told (calls.split_entry K s (here k j) l flag) divided_id_answer) (told (calls.split_entry K s' (there k j) l flag) divided_id_answer)
  unfolding calls.split_by
  split_moves flag l k j =
      unless_moves m s divided_id_answer Err (calls.split_causes K (refuse'.full s ∷ []) s (here k j) l) (calls.split_causes K (refuse'.full s' ∷ []) s' (there k j) l)
      (ap₂ (λ (a b : List Cause). let ls = lengths (calls.slot_at K s (here k j)) in refuse'.many_lines K l ∷ (a ++ b ++ refuse'.too_much K l ls ∷ refuse'.hollow_part K l ls ∷ refuse'.crossed_parts K l ls ∷ refuse'.full s ∷ [])) opening_same (at_same k j)) _ _
      (settled_moves m s divided_id_answer Err (place.divide (shape_of K s.head) flag s k j l) (place.divide (shape_of K s.head) flag s' k j l) (divide_twins (shape_of K s.head) m flag s k j l) _ _ refl)

  resized_twins : (l : List ℕ) (k j : ℕ) → Climbed (shape_of K s.head) (calls.resized K s (here k j) l) (calls.resized K s' (there k j) l)
  resized_twins l k j = climb_twins (shape_of K s.head) K.effect (minus l (lengths (calls.slot_at K s (here k j)))) _ _ (replace_twins (shape_of K s.head) m s k j l)

  resize_same : (l : List ℕ) (k j : ℕ) → calls.resize_causes K s' (there k j) l ≡ calls.resize_causes K s (here k j) l
  resize_same l k j = ap₂ (λ (a b : List Cause). refuse'.many_lines K l ∷ (a ++ b ++ refuse'.crossed_bounds K l ∷ refuse'.past K s (lengths (calls.slot_at K s (here k j))) l ∷ [])) opening_same (at_same k j)

  set_moves : (l : List ℕ) (k j : ℕ) → Moves (told (calls.set_lengths K s (here k j) l) outcome_answer) (told (calls.set_lengths K s' (there k j) l) outcome_answer)
  unfolding calls.set_lengths
  set_moves l k j = unless_moves m s outcome_answer Err (calls.resize_causes K s (here k j) l) (calls.resize_causes K s' (there k j) l) (resize_same l k j) _ _
      (settled_moves m s outcome_answer Err (calls.resized K s (here k j) l).0 (calls.resized K s' (there k j) l).0 (resized_twins l k j).twins (Ok tt) (Ok tt) refl)

  update_moves : (l : List ℕ) (k j : ℕ) → Moves (told (calls.update K s (here k j) l) number_answer) (told (calls.update K s' (there k j) l) number_answer)
  unfolding calls.update
  update_moves l k j = unless_moves m s number_answer Err (calls.resize_causes K s (here k j) l) (calls.resize_causes K s' (there k j) l) (resize_same l k j) _ _
      (settled_moves m s number_answer Err (calls.resized K s (here k j) l).0 (calls.resized K s' (there k j) l).0 (resized_twins l k j).twins _ _ (ap (λ (n : ℕ). number_answer (Ok n)) (resized_twins l k j).same))

  -- calls that read
  rank_same : (v k j : ℕ) → calls.entry_to_char_index K s' v (there k j) ≡ calls.entry_to_char_index K s v (here k j)
  unfolding calls.entry_to_char_index
  rank_same v k j = past_same k j Err _

  lengths_same : (k j : ℕ) → calls.entry_lengths K s' (there k j) ≡ calls.entry_lengths K s (here k j)
  unfolding calls.entry_lengths
  lengths_same k j = past_same k j refused _

  compare_same : (k j k' j' : ℕ) → calls.cmp K s' (there k j) (there k' j') ≡ calls.cmp K s (here k j) (here k' j')
  unfolding calls.cmp calls.path
  compare_same k j k' j' = causes (cond (eqb k k') (calls.in_order (j ∷ []) (j' ∷ [])) (calls.by_path (calls.path K s (here k j)) (calls.path K s (here k' j'))))
    where
      causes : (a : Numbered Ordering) → calls.unless (opening K s' ++ (stale K s' (there k j) ++ stale K s' (there k' j'))) Err a ≡ calls.unless (opening K s ++ (stale K s (here k j) ++ stale K s (here k' j'))) Err a
      causes a =
          ap₂ (λ (x y : List Cause). calls.unless (x ++ (y ++ stale K s' (there k' j'))) Err a) opening_same (stale_same k j)
          ∙ ap (λ (y : List Cause). calls.unless (opening K s ++ (stale K s (here k j) ++ y)) Err a) (stale_same k' j')

  next_same : (k j : ℕ) → next_answer K s' (calls.next_after K s' (there k j)) ≡ next_answer K s (calls.next_after K s (here k j))
  unfolding calls.next_after
  next_same k j =
      let n = calls.leaf_at K s (here k j) in
      let cs = opening K s ++ at_cursor K s (here k j) in
      subst (λ (ds : List Cause). next_answer K s' (calls.unless ds Err (cond (ltb (j + 1) n.len) (Ok (Some (there k (j + 1)))) (calls.next_of m (next_up (shape_of K s.head) s.head.levels 0 n.parent n.at s.inners)))) ≡ next_answer K s (calls.next_after K s (here k j)))
      (sym (ap₂ (λ (a b : List Cause). a ++ b) opening_same (at_same k j)))
      (both Same (eqb (refusal cs) 0)
      (both Same (ltb (j + 1) n.len) (read k (j + 1)) (after (next_up (shape_of K s.head) s.head.levels 0 n.parent n.at s.inners)))
      refl)
    where
      Same : Numbered (Option Cursor) → Numbered (Option Cursor) → Type 0
      Same a b = next_answer K s' b ≡ next_answer K s a

      read : (k j : ℕ) → Same (Ok (Some (here k j))) (Ok (Some (there k j)))
      read k j = ap (λ (n : Numbered EntryId). id_answer n []) (id_same k j)

      after : (x : Result (Option LeafNo) Broken) → Same (calls.next_of s.head.stamp x) (calls.next_of m x)
      after (Ok (Some k)) = read k.0 0
      after (Ok None) = refl
      after (Err _) = refl

  first_same : standing_id_answer K s' (calls.first K s') ≡ standing_id_answer K s (calls.first K s)
  unfolding calls.first opening
  first_same = both Same (eqb (refusal (opening K s)) 0) (at (first_down (shape_of K s.head) s.head.levels s.head.root.0 s.inners)) refl
    where
      Same : Numbered Cursor → Numbered Cursor → Type 0
      Same a b = standing_id_answer K s' b ≡ standing_id_answer K s a

      at : (x : Result (Option LeafNo) Broken) → Same (calls.first_of s.head.stamp x) (calls.first_of m x)
      at (Ok (Some k)) = ap (λ (n : Numbered EntryId). id_answer n []) (id_same k.0 0)
      at (Ok None) = refl
      at (Err _) = refl

-- a lookup's cursor is read in the tree after the call
abbrev looked : Kind → Reply (Numbered (Cursor × ℕ × ℕ × ℕ)) → Moved State
looked K r = moved r.after (located_answer K r.after r.answer)

module _ (K : Kind) (m : ℕ) (s : State) where
  Found : Reply (Numbered (Cursor × ℕ × ℕ × ℕ)) → Reply (Numbered (Cursor × ℕ × ℕ × ℕ)) → Type 0
  Found a b = Moves (looked K a) (looked K b)

  hit_moves : (f : Finger) (offset : ℕ) → Found (calls.hit s f offset) (calls.hit (restamped m s) f offset)
  unfolding Found
  hit_moves f offset = record { stamp = m; after = refl; same = ap (λ (n : Numbered EntryId). id_answer n (offset ∷ effect_at f ∷ prepare_at f ∷ [])) (id_same K m (calls.hit s f offset).after f.leaf f.slot) }

  search_moves : (b : Search) → Found (calls.by_search s b) (calls.by_search (restamped m s) b)
  unfolding Found
  search_moves (Ok (Some (f, offset))) = hit_moves f offset
  search_moves (Ok None) = still m s (refused 5) (refused 5) refl
  search_moves (Err _) = still m s (refused 9) (refused 9) refl

  finger_moves : (a b : Search) → Found (calls.by_finger s a b) (calls.by_finger (restamped m s) a b)
  unfolding Found
  finger_moves (Ok (Some (f, offset))) b = hit_moves f offset
  finger_moves (Ok None) b = search_moves b
  finger_moves (Err _) b = still m s (refused 9) (refused 9) refl

  locate_moves : (v x : ℕ) → Found (calls.locate K s v x) (calls.locate K (restamped m s) v x)
  unfolding calls.locate opening Found
  locate_moves v x = both Found (eqb (refusal (opening K s)) 0)
      (finger_moves (served_by v K.effect (shape_of K s.head) s.head.finger s.head.leaves x s.leaves) (from_root v K.effect (shape_of K s.head) s.head.levels s.head.root.0 s.head.leaves x s.leaves s.inners))
      (still m s (refused (refusal (opening K s))) (refused (refusal (opening K s))) refl)

  -- each call
  move_moves : (c : Call) → Moves (tree_move K s c) (tree_move K (restamped m s) c)
  unfolding tree_move Found calls.len
  move_moves (row.reset l) = reset_moves K m s l
  move_moves (row.insert i l) = target_moves K m s i l
  move_moves (row.split flag i l) = with_moves K m s i _ _ (split_moves K m s flag l)
  move_moves (row.set_lengths i l) = with_moves K m s i _ _ (set_moves K m s l)
  move_moves (row.update i l) = with_moves K m s i _ _ (update_moves K m s l)
  move_moves (row.lookup v x) = locate_moves v x
  move_moves (row.rank v i) = with_moves K m s i _ _ (λ k j. still m s _ _ (ap number_answer (rank_same K m s v k j)))
  move_moves (row.next i) = with_moves K m s i _ _ (λ k j. still m s _ _ (next_same K m s k j))
  move_moves (row.compare i j) = with_moves K m s i _ _ (λ a b. with_moves K m s j _ _ (λ c d. still m s _ _ (ap compared_answer (compare_same K m s a b c d))))
  move_moves (row.lengths i) = with_moves K m s i _ _ (λ k j. still m s _ _ (lengths_same K m s k j))
  move_moves row.count = still m s _ _ refl
  move_moves row.first = still m s _ _ (first_same K m s)
  move_moves row.malformed = still m s (refused 10) (refused 10) refl

  step_moves : (c : Call) → Moves (tree_step K s c) (tree_step K (restamped m s) c)
  unfolding tree_step
  step_moves c = both Moves (overlong K c) (still m s (refused 10) (refused 10) refl) (move_moves c)

-- lists of calls ------------------------------------------------------------------------------------------------------------------------------

pub same_by_id : (K : Kind) (m : ℕ) (s : State) (cs : List Call) → SameById K m s cs
unfolding answers finally
same_by_id K m s [] = record { answered = refl; stamp = m; left = refl }
same_by_id K m s (c ∷ cs) =
    let h = step_moves K m s c in
    let i = same_by_id K h.stamp (tree_step K s c).after cs in
    record {
      answered = ap₂ ◌∷◌ h.same (ap (λ (t : State). answers (tree_step K) t cs) h.after ∙ i.answered);
      stamp = i.stamp;
      left = ap (λ (t : State). finally (tree_step K) t cs) h.after ∙ i.left;
    }

-- any stamp is sound --------------------------------------------------------------------------------------------------------------------------

-- neither the nodes nor the tree that they are read as know the stamp
pub sound_restamped : (K : Kind) (m : ℕ) (s : State) → Sound K s → Sound K (restamped m s)
sound_restamped K m s w =
    let n : Neat (stride K) s = neat_of (stride K) s K.effect w.coherent in
    record {
      coherent = sound_up (stride K) (restamped m s) K.effect
          (record {
            leaf_area = n.leaf_area;
            inner_area = n.inner_area;
            home_area = n.home_area;
            leaf_count = n.leaf_count;
            inner_count = n.inner_count;
            leaf_tidy = n.leaf_tidy;
            inner_tidy = n.inner_tidy;
            view = n.view;
          })
          (sound_of (stride K) s K.effect w.coherent);
      lines = w.lines;
      bounds = w.bounds;
    }

pub represents_restamped : (K : Kind) (m : ℕ) (s : State) (r : Row) → Represents K s r → Represents K (restamped m s) r
represents_restamped K m s r h =
    let w = sound_restamped K m s h.sound in
    record { sound = w; entries = entries_are K (restamped m s) w.coherent ∙ sym (entries_are K s h.sound.coherent) ∙ h.entries; limit = h.limit }

-- nor does audit read it
pub audit_restamped : (K : Kind) (m : ℕ) (s : State) → audit K (restamped m s) ≡ audit K s
unfolding audit
audit_restamped K m s = go (eqb (refusal cs) 0) refl (is_sound K s) refl (is_sound K (restamped m s)) refl
  where
    cs : List Cause
    cs = calls.area_causes K s.head.fan s.head.limit s.leaves s.inners s.homes

    go : (a : Bool) → eqb (refusal cs) 0 ≡ a → (b : Bool) → is_sound K s ≡ b → (c : Bool) → is_sound K (restamped m s) ≡ c → audit K (restamped m s) ≡ audit K s
    go false p b q c r = rw p
    go true p true q c r =
        let e : audit K s ≡ Ok true = rw (p, q) in
        (audit_exactly K (restamped m s)).1 (sound_restamped K m s ((audit_exactly K s).0 e)) ∙ sym e
    go true p false q true r =
        let e : audit K (restamped m s) ≡ Ok true = rw (p, r) in
        e ∙ sym ((audit_exactly K s).1 (sound_restamped K s.head.stamp (restamped m s) ((audit_exactly K (restamped m s)).0 e)))
    go true p false q false r = rw (p, q, r)

pub any_stamp : (K : Kind) (m : ℕ) (s : State) → AnyStamp K m s
any_stamp K m s = record { sound = sound_restamped K m s; stands = represents_restamped K m s; audited = audit_restamped K m s }

-- so both trees that a list by ids leaves stand for one row
pub same_row : (K : Kind) → K.effect < K.views → (m : ℕ) (s : State) (r : Row) → Represents K s r → (cs : List Call) → All (InWords K) cs
    → Represents K (finally (tree_step K) s cs) (finally (row_step K) r cs) × Represents K (finally (tree_step K) (restamped m s) cs) (finally (row_step K) r cs)
same_row K ok m s r h cs k = ((runs_alike K ok s r cs h k).1, (runs_alike K ok (restamped m s) r cs (represents_restamped K m s r h) k).1)
