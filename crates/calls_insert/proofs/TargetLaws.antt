-- What the tests of an insert answer and say, and which slot its target is. Assumes nothing.
use Rattle.model.specs.declared.way.Broken.{Broken}
use Rattle.model.specs.Numbered.{Numbered, refusal_number}
use Rattle.model.specs.declared.refusal.Refusal.{Refusal}
use Rattle.std.specs.Prelude.{Ok, Err, Some, None, Option, Result}
use mathlib.Core.Path.{◌≡◌, refl, sym, ap, subst, ◌∙◌}
use mathlib.Core.Bool.{Bool, true, false, ◌&&◌}
use mathlib.Core.List.{List, [], ◌∷◌, ◌++◌}
use Prim.Native.Nat.{ℕ, zero, suc, ◌+◌, ◌-◌, ◌<◌, ◌≤◌}
use native.Mathlib.Omega.{arith}
use lib.ListN.{get_or}
use lib.Dec.{ltb, leb}
use borrow.Author.Tests.{ltb-true, leb-false, ltb-false}
use Rattle.model.specs.Lists.{Cause, refusal, some, All, range}
use Rattle.model.specs.Kind.{kind, kind_of, too_many_lines, crossed}
use Rattle.model.specs.Length.{lengths_in}
use Rattle.model.specs.Node.{child}
use Rattle.model.specs.State.{State, shape_for, node_at}
use Rattle.model.specs.Climb.{last_down}
use Rattle.model.specs.Refuse.{shape_of, opening, total_of, crossed_bounds, past}
use Rattle.model.specs.Calls.{target_causes, insert_causes}
use Rattle.model.specs.declared.shape.Kind.{Kind}
use Rattle.model.specs.declared.shape.Shape.{Shape}
use Rattle.model.specs.declared.number.LeafNo.{LeafNo}
use Rattle.model.specs.declared.head.Cursor.{Cursor}
use Rattle.model_laws.specs.Lens.{by_test}
use Rattle.tree_open.proofs.Causes.{opened_first, opened_next, opened_number, opened_zero, opened_stop, opened_more, good_number, good_shape, good_front, good_tail, none_applies, Positive}
use Rattle.tree_open.proofs.Refusals.{some_number}
use Rattle.tree_open.proofs.ReadyLaws.{ready_here}
use Rattle.tree_open.proofs.WidthLaws.{past_same}
use Rattle.tree_open.specs.Lengths.{past_in}
use Rattle.tree_open.specs.Open.{opened_by}
use Rattle.tree_open.specs.Ready.{Ready}

-- the causes of the tree and of the target
abbrev pub front_of : Kind → State → Option Cursor → List Cause
front_of K s t = opening K s ++ target_causes K s t

front_numbered : (K : Kind) (s : State) (t : Option Cursor) → Positive (front_of K s t)
unfolding opening All
front_numbered K s (Some c) = (omega arith, (omega arith, (omega arith, (omega arith, (omega arith, (omega arith, (omega arith, tt)))))))
front_numbered K s None = (omega arith, (omega arith, (omega arith, tt)))

-- what is known of a target that was tested
unfoldable pub Aimed : Kind → State → Option Cursor → Type 0
Aimed K s (Some c) = (c.leaf.0 < s.head.leaves) × (c.slot < (node_at (shape_of K s.head) c.leaf.0 s.leaves).len) × ((node_at (shape_of K s.head) c.leaf.0 s.leaves).len ≤ s.head.fan)
Aimed K s None = 0 ≤ 0

-- what 7 says with no lengths for old ones
zeros : (K : Kind) (s : State) (l : List ℕ) (n : ℕ) → 1 ≤ n → n ≤ 3
    → some (λ v. ltb (4294967295 + get_or (lengths_in n (0 ∷ 0 ∷ 0 ∷ 0 ∷ [])) v 0) (total_of K s v + get_or l v 0)) (range 0 n)
    ≡ some (λ v. ltb (4294967295 + get_or [] v 0) (total_of K s v + get_or l v 0)) (range 0 n)
unfolding some range
zeros K s l zero a b = absurd (omega arith)
zeros K s l (suc zero) a b = refl
zeros K s l (suc (suc zero)) a b = refl
zeros K s l (suc (suc (suc zero))) a b = refl
zeros K s l (suc (suc (suc (suc n)))) a b = absurd (omega arith)

past_none : (K : Kind) → (1 ≤ K.views) × (K.views ≤ 3) → (s : State) (l : List ℕ) → (past K s (lengths_in K.views (0 ∷ 0 ∷ 0 ∷ 0 ∷ [])) l).applies ≡ (past K s [] l).applies
past_none K w s l = zeros K s l K.views w.0 w.1

module _ (K : Kind) (w : (1 ≤ K.views) × (K.views ≤ 3)) (s : State) where
  -- the tree is ready where no cause applies
  none_ready : (ys : List Cause) → All (λ c. c.applies ≡ false) (opening K s ++ ys) → Ready K s (shape_of K s.head)
  unfolding opening All
  none_ready ys n = ready_here K w s n.0 n.1.0 n.1.1.0

  pub front_ready : (t : Option Cursor) (g : Shape) → Ok g ≡ opened_by (front_of K s t) (shape_of K s.head) → Ready K s g
  front_ready t g e =
      let q = sym e in
      rw (← good_shape (front_of K s t) (shape_of K s.head) g q)
      (none_ready (target_causes K s t) (none_applies (front_of K s t) (front_numbered K s t) (good_number (front_of K s t) (shape_of K s.head) g q)))

  -- a cursor stands where its causes don't apply
  stood : (t : Option Cursor) → All (λ c. c.applies ≡ false) (front_of K s t) → Aimed K s t
  unfolding opening All Aimed
  stood (Some c) n = (leb-false _ _ n.1.1.1.1.0, leb-false _ _ n.1.1.1.1.1.0, ltb-false _ _ n.1.1.1.1.1.1.0)
  stood None n = omega arith

  -- what `open_insert` answers, with these causes behind all others: 10 where there are too many line ends
  module _ (causes : List Cause) where
    pub insert_many : (t : Option Cursor) (l : List ℕ) (m : Bool) → m ≡ too_many_lines K l → m ≡ true → Err 10 ≡ opened_by (insert_causes K causes s t l) (shape_of K s.head)
    insert_many t l m em h = sym (opened_first 9 _ _ _ (sym em ∙ h))

    -- else, from what `open_for` answered
    module _ (t : Option Cursor) (l : List ℕ) (m : Bool) (em : m ≡ too_many_lines K l) (few : m ≡ false) where
      behind : opened_by (insert_causes K causes s t l) (shape_of K s.head) ≡ opened_by (opening K s ++ target_causes K s t ++ crossed_bounds K l ∷ past K s [] l ∷ causes) (shape_of K s.head)
      behind = opened_next 10 _ _ _ (sym em ∙ few)

      pub insert_stop : (n : ℕ) → Err n ≡ opened_by (front_of K s t) (shape_of K s.head) → Err n ≡ opened_by (insert_causes K causes s t l) (shape_of K s.head)
      insert_stop n d = sym (behind ∙ opened_stop (front_of K s t) (crossed_bounds K l ∷ past K s [] l ∷ causes) _ n (sym d))

      module _ (g : Shape) (d : Ok g ≡ opened_by (front_of K s t) (shape_of K s.head)) (y : Bool) (ey : y ≡ crossed K l) where
        beyond : opened_by (insert_causes K causes s t l) (shape_of K s.head) ≡ opened_by (crossed_bounds K l ∷ past K s [] l ∷ causes) (shape_of K s.head)
        beyond = behind ∙ opened_more (front_of K s t) (crossed_bounds K l ∷ past K s [] l ∷ causes) _ g (front_numbered K s t) (sym d)

        pub insert_crossed : y ≡ true → Err 20 ≡ opened_by (insert_causes K causes s t l) (shape_of K s.head)
        insert_crossed h = sym (beyond ∙ opened_first 19 _ (past K s [] l ∷ causes) _ (sym ey ∙ h))

        module _ (straight : y ≡ false) (b : Bool)
            (eb : b ≡ past_in (shape_for K.views g.fan g.nodes) s.head.root.0 s.inners (lengths_in K.views (0 ∷ 0 ∷ 0 ∷ 0 ∷ [])) l) where
          same : shape_of K s.head ≡ g
          same = good_shape (front_of K s t) (shape_of K s.head) g (sym d)

          here : b ≡ (past K s [] l).applies
          here = eb ∙ past_same K s g (sym same) (lengths_in K.views (0 ∷ 0 ∷ 0 ∷ 0 ∷ [])) l ∙ past_none K w s l

          rest : opened_by (insert_causes K causes s t l) (shape_of K s.head) ≡ opened_by (past K s [] l ∷ causes) (shape_of K s.head)
          rest = beyond ∙ opened_next 20 _ (past K s [] l ∷ causes) _ (sym ey ∙ straight)

          pub insert_past : b ≡ true → Err 7 ≡ opened_by (insert_causes K causes s t l) (shape_of K s.head)
          insert_past h = sym (rest ∙ opened_first 6 _ causes _ (sym here ∙ h))

          module _ (h : b ≡ false) where
            last : opened_by (insert_causes K causes s t l) (shape_of K s.head) ≡ opened_by causes (shape_of K s.head)
            last = rest ∙ opened_next 7 _ causes _ (sym here ∙ h)

            pub insert_full : (why : Refusal) → refusal causes ≡ refusal_number why → Err (refusal_number why) ≡ opened_by (insert_causes K causes s t l) (shape_of K s.head)
            insert_full why q = sym (last ∙ opened_number causes _ _ q (some_number why))

            pub insert_good : refusal causes ≡ 0 → Ok g ≡ opened_by (insert_causes K causes s t l) (shape_of K s.head)
            insert_good q = sym (last ∙ opened_zero causes _ q ∙ ap Ok same)

    -- and what is known where it gives no number: the tree is ready, a cursor stands, and none of the causes applies
    module _ (t : Option Cursor) (l : List ℕ) (g : Shape) (e : Ok g ≡ opened_by (insert_causes K causes s t l) (shape_of K s.head)) where
      behind_lines : opened_by (opening K s ++ target_causes K s t ++ crossed_bounds K l ∷ past K s [] l ∷ causes) (shape_of K s.head) ≡ Ok g
      behind_lines = good_tail 9 (too_many_lines K l) _ (shape_of K s.head) g (sym e)

      front : opened_by (front_of K s t) (shape_of K s.head) ≡ Ok g
      front = good_front (front_of K s t) (crossed_bounds K l ∷ past K s [] l ∷ causes) (shape_of K s.head) g behind_lines

      pub insert_ready : Ready K s g × Aimed K s t
      insert_ready = (
        front_ready t g (sym front),
        stood t (none_applies (front_of K s t) (front_numbered K s t) (good_number (front_of K s t) (shape_of K s.head) g front)),
      )

      pub insert_room : refusal causes ≡ 0
      insert_room =
          good_number causes (shape_of K s.head) g
          (good_tail 6 _ causes _ g (good_tail 19 _ (past K s [] l ∷ causes) _ g (sym (opened_more (front_of K s t) (crossed_bounds K l ∷ past K s [] l ∷ causes) _ g (front_numbered K s t) front) ∙ behind_lines)))

-- what doesn't ask for an order of the lengths: the tests of the tree and of the target, and what is known where none gives a number
module _ (views effect : ℕ) (ordered : Bool) (s : State) where
  pub front_ordered : (t : Option Cursor) (o : Numbered Shape) → o ≡ opened_by (front_of (kind views effect) s t) (shape_of (kind views effect) s.head)
      → o ≡ opened_by (front_of (kind_of views effect ordered) s t) (shape_of (kind_of views effect ordered) s.head)
  unfolding opening
  front_ordered (Some c) o e = e
  front_ordered None o e = e

-- the leaf that the last slots lead to is in the area
within : Shape → Result (Option LeafNo) Broken → Type 0
within g (Ok (Some k)) = k.0 < g.nodes
within g (Ok None) = Unit {0}
within g (Err _) = Unit {0}

last_within : (g : Shape) (n k : ℕ) (xs : List ℕ) → within g (last_down g n k xs)
unfolding last_down within
last_within g zero k xs = by_test (within g) (ltb k g.nodes) _ _ (λ h. ltb-true _ _ h) (λ _. tt)
last_within g (suc n) k xs =
    let m = node_at g k xs in
    by_test (within g) (ltb k g.nodes && ltb 0 m.len && leb m.len g.fan) _ _ (λ _. last_within g n (child (get_or m.slots (m.len - 1) [])) xs) (λ _. tt)

pub last_in : (g : Shape) (n k : ℕ) (xs : List ℕ) (j : LeafNo) → Ok (Some j) ≡ last_down g n k xs → j.0 < g.nodes
unfolding within
last_in g n k xs j e = subst (within g) (sym e) (last_within g n k xs)
