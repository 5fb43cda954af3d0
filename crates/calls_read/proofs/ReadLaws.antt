-- What the calls answer that read one entry. Assumes nothing.
use Rattle.model.specs.declared.number.EntryId.{EntryId}
use Rattle.model.specs.Numbered.{Numbered}
use Rattle.std.specs.Prelude.{Ok, Err, Some, Option}
use Rattle.std.proofs.Common.{◌≡◌, ℕ, suc, ◌+◌, ◌-◌, ◌<◌, ◌≤◌, Bool, true, false, cond, ◌&&◌, eqb, ltb, leb, List, [], ◌∷◌, ◌++◌, length, get_or, sym, refl, ap, ◌∙◌, arith, le-ltb, lt-ltb, ne_eqb, le-leb}
use borrow.Author.Tests.{lt-leb}
use Rattle.model.specs.Row.{Answer, done, refused}
use Rattle.model.specs.Node.{child, lengths, used, index_from}
use Rattle.model.specs.State.{State, node_at}
use Rattle.model.specs.Refuse.{shape_of, opening, at_cursor, no_such_id}
use Rattle.model.specs.Length.{lengths_in}
use Rattle.model.specs.Calls.{entry_id, id, entry_lengths, standing_in, cursor}
use Rattle.model.specs.declared.shape.Kind.{Kind}
use Rattle.model.specs.declared.shape.Shape.{Shape}
use Rattle.model.specs.declared.head.Cursor.{Cursor}
use Rattle.model_laws.specs.AreaRead.{used_length}
use Rattle.tree_node.specs.Shaped.{Shaped}
use Rattle.tree_open.proofs.Causes.{opened_first, opened_next, opened_none, opened_stop, opened_more, good_shape, refused_number, call_refused, call_good}
use Rattle.tree_open.proofs.OpenLaws.{opening_numbered}
use Rattle.tree_open.specs.Open.{opened_by}
use Rattle.calls_read.specs.Read.{cursor_in, lengths_by}

-- the answers, made with the sizes g
module _ (s : State) (c : Cursor) where
  abbrev slot_by : Shape → List ℕ
  slot_by g = get_or (node_at g c.leaf.0 s.leaves).slots c.slot []

  abbrev id_by : Shape → Numbered EntryId
  id_by g = Ok (entry_id (child (slot_by g)))

  abbrev lengths_at : Shape → Answer
  lengths_at g = done (lengths (slot_by g))

module _ (K : Kind) (s : State) (c : Cursor) where
  pub id_refused : (n : ℕ) → Err n ≡ opened_by (opening K s ++ at_cursor K s c) (shape_of K s.head) → Err n ≡ id K s c
  unfolding id
  id_refused n e = call_refused Err (id_by s c) _ (shape_of K s.head) _ e n refl

  pub lengths_refused : (n : ℕ) → Err n ≡ opened_by (opening K s ++ at_cursor K s c) (shape_of K s.head) → (ls : List ℕ) → lengths_by n ls ≡ entry_lengths K s c
  unfolding entry_lengths
  lengths_refused n e ls =
      let h = (refused_number (opening K s ++ at_cursor K s c) (shape_of K s.head) n (sym e)).1 in
      rw (ne_eqb n 0 (λ z. omega arith)) (call_refused refused (lengths_at s c) _ (shape_of K s.head) _ e n refl)

  module _ (g : Shape) (e : Ok g ≡ opened_by (opening K s ++ at_cursor K s c) (shape_of K s.head)) where
    pub id_good : (x : ℕ) → x ≡ child (slot_by s c g) → Ok (entry_id x) ≡ id K s c
    unfolding id
    id_good x q = call_good Err (id_by s c) _ (shape_of K s.head) _ e g refl _ (ap (λ (y : ℕ). Ok (entry_id y)) q)

    pub lengths_good : (views : ℕ) (x : List ℕ) → g.stride - 1 ≡ views → lengths_in (g.stride - 1) x ≡ lengths (slot_by s c g) → lengths_by 0 (lengths_in views x) ≡ entry_lengths K s c
    unfolding entry_lengths
    lengths_good views x w p =
        call_good refused (lengths_at s c) _ (shape_of K s.head) _ e g refl _ (ap (λ (n : ℕ). done (lengths_in n x)) (sym w) ∙ ap done p)

-- the slot that holds a child is one of those that were searched
index_step : (b : Bool) (k n j : ℕ) (p : Option ℕ) → (p ≡ Some j → j < k + 1 + n) → cond b (Some k) p ≡ Some j → j < k + suc n
index_step true k n j p f e = let z : k ≡ j = cc in omega arith
index_step false k n j p f e = omega (arith, f e)

pub index_below : (i k : ℕ) (xs : List (List ℕ)) (j : ℕ) → index_from i k xs ≡ Some j → j < k + length xs
unfolding index_from
index_below i k [] j e = let z : ◌≡◌ {A = ℕ} 0 1 = cc in absurd (omega arith)
index_below i k (x ∷ xs) j e = index_step (eqb (child x) i) k (length xs) j (index_from i (k + 1) xs) (index_below i (k + 1) xs j) e

module _ (g : Shape) (ls : List ℕ) (k i stamp : ℕ) where
  pub home_over : g.fan < (node_at g k ls).len → Err 9 ≡ cursor_in g ls k i stamp
  unfolding cursor_in
  home_over h = rw (lt-leb (node_at g k ls).len g.fan h)

  pub home_few : (node_at g k ls).len ≤ g.fan → (p q : Option ℕ) → p ≡ index_from i 0 (used (node_at g k ls)) → p ≡ q → standing_in stamp k q ≡ cursor_in g ls k i stamp
  unfolding cursor_in
  home_few h p q e d = rw (le-leb (node_at g k ls).len g.fan h) (ap (standing_in stamp k) (sym d ∙ e))

  pub home_slot : Shaped g → (node_at g k ls).len ≤ g.fan → (p : Option ℕ) (j : ℕ) → p ≡ index_from i 0 (used (node_at g k ls)) → p ≡ Some j → j < 32
  home_slot hg h p j e d = omega (arith, hg.few, used_length g k ls h, index_below i 0 (used (node_at g k ls)) j (sym e ∙ d))

-- `cursor`, from what `open` answered
module _ (K : Kind) (s : State) (i : ℕ) where
  abbrev cursor_by : Shape → Numbered Cursor
  cursor_by g =
      let h = s.head in
      let k = get_or s.homes i 0 in
      let m = node_at g k s.leaves in
      cond (ltb k h.leaves && leb m.len h.fan) (standing_in h.stamp k (index_from i 0 (used m))) (Err 9)

  pub cursor_refused : (n : ℕ) → Err n ≡ opened_by (opening K s) (shape_of K s.head) → Err n ≡ cursor K s i
  unfolding cursor
  cursor_refused n e = call_refused Err cursor_by (opening K s ++ no_such_id s i ∷ []) (shape_of K s.head) _ refl n (opened_stop (opening K s) _ _ n (sym e))

  module _ (g : Shape) (e : Ok g ≡ opened_by (opening K s) (shape_of K s.head)) where
    last : opened_by (opening K s ++ no_such_id s i ∷ []) (shape_of K s.head) ≡ opened_by (no_such_id s i ∷ []) (shape_of K s.head)
    last = opened_more (opening K s) (no_such_id s i ∷ []) _ g (opening_numbered K s) (sym e)

    pub cursor_past : s.head.entries ≤ i → Err 4 ≡ cursor K s i
    unfolding cursor
    cursor_past h =
        call_refused Err cursor_by (opening K s ++ no_such_id s i ∷ []) (shape_of K s.head) _ refl 4 (last ∙ opened_first 3 _ _ _ (le-leb s.head.entries i h))

    module _ (h : i < s.head.entries) (k : ℕ) (ek : k ≡ get_or s.homes i 0) where
      here : (a : Numbered Cursor) → a ≡ cursor_by g → a ≡ cursor K s i
      unfolding cursor
      here a q =
          call_good Err cursor_by (opening K s ++ no_such_id s i ∷ []) (shape_of K s.head) _ refl g
          (last ∙ opened_next 4 _ _ _ (lt-leb s.head.entries i h) ∙ opened_none _ ∙ ap Ok (good_shape (opening K s) _ g (sym e))) a q

      pub cursor_astray : s.head.leaves ≤ k → Err 9 ≡ cursor K s i
      cursor_astray f = here (Err 9) (rw (← ek, le-ltb k s.head.leaves f))

      pub cursor_good : k < s.head.leaves → (a : Numbered Cursor) → a ≡ cursor_in g s.leaves k i s.head.stamp → a ≡ cursor K s i
      unfolding cursor_in
      cursor_good f a q = here a (q ∙ rw (← ek, lt-ltb k s.head.leaves f, ap (λ (x : Shape). x.fan) (sym (good_shape (opening K s) _ g (sym e)))))
