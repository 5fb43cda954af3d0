-- What the lookups answer and count on a tree of any kind, and where the finger stayed in its leaf. Assumes nothing.
use Rattle.model.specs.declared.head.Cursor.{Cursor}
use Rattle.model.specs.Numbered.{Numbered, numbered, refusal_number, broken}
use Rattle.model.specs.declared.refusal.Refusal.{Refusal}
use Rattle.model.specs.declared.refusal.Refusal.TheVariants as refusal
use Rattle.std.specs.Prelude.{Ok, Err, Some, None, Option, Result}
use Rattle.std.proofs.Common.{◌≡◌, ℕ, ◌+◌, true, false, sym, refl, ap, ◌∙◌, subst, ap₂, arith}
use Rattle.model.specs.State.{State, state}
use Rattle.model.specs.Locate.{served_by, from_root}
use Rattle.model.specs.Node.{wrap}
use Rattle.model.specs.Refuse.{shape_of, opening}
use Rattle.model.specs.Calls.{Reply, reply, by_finger, by_search, locate, less_positions, char_index_to_entry}
use Rattle.model.specs.Examined as count
use Rattle.model.specs.Examined.{downward, with_slots, found_slots, held_slots, looked_slots, look_slots, Counted, counted}
use Rattle.model.specs.declared.shape.Kind.{Kind}
use Rattle.model.specs.declared.shape.Shape.{Shape}
use Rattle.model.specs.declared.head.Finger.{Finger}
use Rattle.model.specs.Locate.{Search}
use Rattle.model.specs.declared.way.Searched.{Searched}
use Rattle.model.specs.declared.answer.LocatedReply.{LocatedReply}
use Rattle.tree_open.proofs.Causes.{call_refused, call_good}
use Rattle.tree_open.specs.Open.{opened_by}
use Rattle.calls_read.specs.Lookup.{located_reply, hit_of, search_of, Stayed}
use Rattle.calls_read.proofs.StayLaws.{served_stays}

module _ (s : State) where
  -- a lookup writes no area
  abbrev pub reply_of : LocatedReply → Reply (Numbered (Cursor × ℕ × ℕ × ℕ))
  reply_of r = reply (state r.head s.leaves s.inners s.homes) (numbered r.answer)

  abbrev pub counted_of : LocatedReply → Reply (Counted (Numbered (Cursor × ℕ × ℕ × ℕ)))
  counted_of r = reply (state r.head s.leaves s.inners s.homes) (counted (numbered r.answer) r.examined)

  search_same : (t : Search) (n : ℕ) → reply_of (search_of s.head t n) ≡ by_search s t
  search_same (Ok (Some (f, offset))) n = refl
  search_same (Ok None) n = refl
  search_same (Err _) n = refl

  -- where the reply says so, the finger stayed
  abbrev Stays : LocatedReply → Type 0
  Stays x = x.stayed ≡ true → Stayed s.head.finger x.head.finger

  gone : (x : LocatedReply) → x.stayed ≡ false → Stays x
  gone x e q = let d : false ≡ true = sym e ∙ q in let z : ◌≡◌ {A = ℕ} 0 1 = cc in absurd (omega arith)

  search_gone : (t : Search) (n : ℕ) → (search_of s.head t n).stayed ≡ false
  search_gone (Ok (Some (f, offset))) n = refl
  search_gone (Ok None) n = refl
  search_gone (Err _) n = refl

  -- from the root b, after a in vain
  search_slots : (t : Search) (a b : ℕ) → (search_of s.head t (wrap (a + found_slots t b))).examined ≡ found_slots t (wrap (a + b))
  search_slots (Ok (Some (f, offset))) a b = refl
  search_slots (Ok None) a b = refl
  search_slots (Err _) a b = refl

  module _ (K : Kind) (v index : ℕ) where
    abbrev finger_by : Shape → Search
    finger_by g = served_by v K.effect g s.head.finger s.head.leaves index s.leaves

    abbrev held_by : Shape → ℕ
    held_by g = held_slots v K.effect g s.head.finger s.head.leaves index s.leaves

    abbrev root_by : Shape → Search
    root_by g = from_root v K.effect g s.head.levels s.head.root.0 s.head.leaves index s.leaves s.inners

    abbrev top_by : Shape → ℕ
    top_by g = downward v g s.leaves s.inners s.head.levels s.head.root.0 index

    abbrev lookup_by : Shape → Reply (Numbered (Cursor × ℕ × ℕ × ℕ))
    lookup_by g = by_finger s (finger_by g) (root_by g)

    abbrev slots_by : Shape → ℕ
    slots_by g = looked_slots (finger_by g) (held_by g) (root_by g) (top_by g)

    abbrev Told : LocatedReply → Type 0
    Told x = (counted_of x ≡ count.locate K s v index) × Stays x

    -- the answer and the count
    both : (x : LocatedReply) → reply_of x ≡ locate K s v index → x.examined ≡ look_slots K s v index → counted_of x ≡ count.locate K s v index
    unfolding count.locate
    both x e q = ap₂ (λ (r : Reply (Numbered (Cursor × ℕ × ℕ × ℕ))) (n : ℕ). reply r.after (counted r.answer n)) e q

    slots_refused : (n : ℕ) → Err n ≡ opened_by (opening K s) (shape_of K s.head) → 0 ≡ look_slots K s v index
    unfolding look_slots
    slots_refused n e = call_refused (λ (m : ℕ). 0) slots_by (opening K s) (shape_of K s.head) _ e n refl

    answer_refused : (why : Refusal) → Err (refusal_number why) ≡ opened_by (opening K s) (shape_of K s.head) → reply_of (located_reply s.head (Err why) 0 false) ≡ locate K s v index
    unfolding locate
    answer_refused why e = call_refused (λ (m : ℕ). reply s (Err m)) lookup_by (opening K s) (shape_of K s.head) _ e (refusal_number why) refl

    pub locate_refused : (why : Refusal) → Err (refusal_number why) ≡ opened_by (opening K s) (shape_of K s.head) → (x : LocatedReply) → x ≡ located_reply s.head (Err why) 0 false → Told x
    locate_refused why e x ex = (
      ap counted_of ex ∙ both (located_reply s.head (Err why) 0 false) (answer_refused why e) (slots_refused (refusal_number why) e),
      gone x (ap (λ (y : LocatedReply). y.stayed) ex),
    )

    module _ (g : Shape) (e : Ok g ≡ opened_by (opening K s) (shape_of K s.head)) (r : Searched) (er : r ≡ with_slots (finger_by g) (held_by g)) where
      answer_by_law : (q : Search) → finger_by g ≡ q → (a : Reply (Numbered (Cursor × ℕ × ℕ × ℕ))) → a ≡ by_finger s q (root_by g) → a ≡ locate K s v index
      unfolding locate
      answer_by_law q eq a ea =
          call_good (λ (m : ℕ). reply s (Err m)) lookup_by (opening K s) (shape_of K s.head) _ e g refl a
          (ea ∙ ap (λ (x : Search). by_finger s x (root_by g)) (sym eq))

      slots_by_law : (q : Search) → finger_by g ≡ q → (n : ℕ) → n ≡ looked_slots q (held_by g) (root_by g) (top_by g) → n ≡ look_slots K s v index
      unfolding look_slots
      slots_by_law q eq n en =
          call_good (λ (m : ℕ). 0) slots_by (opening K s) (shape_of K s.head) _ e g refl n (en ∙ ap (λ (x : Search). looked_slots x (held_by g) (root_by g) (top_by g)) (sym eq))

      -- by what the finger gave
      by : (q : Search) → r.found ≡ q → (x : LocatedReply) → reply_of x ≡ by_finger s q (root_by g) → x.examined ≡ looked_slots q (held_by g) (root_by g) (top_by g) → counted_of x ≡ count.locate K s v index
      by q eq x ea en = let z : finger_by g ≡ q = sym (ap (λ (y : Searched). y.found) er) ∙ eq in both x (answer_by_law q z (reply_of x) ea) (slots_by_law q z x.examined en)

      pub locate_hit : (f : Finger) (offset : ℕ) → r.found ≡ Ok (Some (f, offset)) → (x : LocatedReply) → x ≡ hit_of s.head f offset r.examined true → Told x
      locate_hit f offset eq x ex = (
        by (Ok (Some (f, offset))) eq x (ap reply_of ex) (ap (λ (y : LocatedReply). y.examined) ex ∙ ap (λ (y : Searched). y.examined) er),
        λ q. subst (λ (t : Option Finger). Stayed s.head.finger t) (sym (ap (λ (y : LocatedReply). y.head.finger) ex))
            (served_stays v K.effect g s.head.leaves index s.leaves s.head.finger f offset (sym (ap (λ (y : Searched). y.found) er) ∙ eq)),
      )

      pub locate_broken : r.found ≡ Err broken → (x : LocatedReply) → x ≡ located_reply s.head (Err refusal.Link) 0 false → Told x
      locate_broken eq x ex = (by (Err broken) eq x (ap reply_of ex) (ap (λ (y : LocatedReply). y.examined) ex), gone x (ap (λ (y : LocatedReply). y.stayed) ex))

      pub locate_again : r.found ≡ Ok None → (t : Searched) → t ≡ with_slots (root_by g) (found_slots (root_by g) (top_by g))
          → (x : LocatedReply) → x ≡ search_of s.head t.found (wrap (r.examined + t.examined)) → Told x
      locate_again eq t et x ex =
          let z : x ≡ search_of s.head (root_by g) (wrap (held_by g + found_slots (root_by g) (top_by g)))
          = ex ∙ ap₂ (λ (y w : Searched). search_of s.head w.found (wrap (y.examined + w.examined))) er et in
          let n = wrap (held_by g + found_slots (root_by g) (top_by g)) in (
            by (Ok None) eq x (ap reply_of z ∙ search_same (root_by g) n) (ap (λ (y : LocatedReply). y.examined) z ∙ search_slots (root_by g) (held_by g) (top_by g)),
            gone x (ap (λ (y : LocatedReply). y.stayed) z ∙ search_gone (root_by g) n),
          )

    -- the two positions are left out
    pub less_positions_law : (x : LocatedReply) → counted_of x ≡ count.locate K s v index → (a : Result (Cursor × ℕ × ℕ × ℕ) Refusal) → x.answer ≡ a
        → reply (state x.head s.leaves s.inners s.homes) (counted (less_positions (numbered a)) x.examined) ≡ count.char_index_to_entry K s v index
    unfolding count.char_index_to_entry count.locate char_index_to_entry
    less_positions_law x e a ea =
        ap (λ (y : Result (Cursor × ℕ × ℕ × ℕ) Refusal). reply (state x.head s.leaves s.inners s.homes) (counted (less_positions (numbered y)) x.examined)) (sym ea)
        ∙ ap (λ (y : Reply (Counted (Numbered (Cursor × ℕ × ℕ × ℕ)))). reply y.after (counted (less_positions y.answer.answer) y.answer.examined)) e
