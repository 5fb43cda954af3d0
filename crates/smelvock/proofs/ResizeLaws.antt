-- Other lengths, as the one call with its position asked for or not: `update` and `set_lengths`. Assumes nothing.
use Rattle.std.specs.Prelude.{Ok, Err}
use mathlib.Core.Path.{◌≡◌, refl}
use mathlib.Core.Bool.{Bool, true, false, cond, ◌||◌}
use Prim.Native.Nat.{ℕ}
use lib.Dec.{ltb, eqb}
use Rattle.model.specs.Length.{list_of}
use Rattle.model.specs.Kind.{base}
use Rattle.model.specs.Lists.{refusal}
use Rattle.model.specs.Answer.{outcome_answer, number_answer}
use Rattle.model.specs.State.{State, state}
use Rattle.model.specs.Place.{Change}
use Rattle.model.specs.Calls as calls
use Rattle.model.specs.Calls.{Reply, reply}
use Rattle.model.specs.declared.head.Cursor.{Cursor}
use Rattle.model.specs.declared.length.Lengths.{Lengths}
use Rattle.smelvock_marshal.specs.Flat.{bad_head, head_after, number_of}
use Rattle.smelvock_marshal.specs.Lent.{Given, state_of}
use Rattle.calls_size.specs.Size as size
use Rattle.smelvock.specs.Changes as flat
use Rattle.smelvock.specs.Changes.{left_by}

-- a call that was opened or not and settled or not, with 0 or with nothing for its value: a host is left the same
module _ (s : State) (n : ℕ) (r : Change) where
  abbrev by : {A : Type 0} → (ℕ → A) → A → Bool → Bool → Reply A
  by refuse a opened done =
      cond opened (cond done (reply r.state a) (reply (state s.head r.state.leaves r.state.inners r.state.homes) (refuse r.number))) (reply s (refuse n))

  no_value : (bad opened done : Bool) (g : Given)
      → left_by number_of number_answer head_after bad g (by Err (Ok 0) opened done) ≡ left_by number_of outcome_answer head_after bad g (by Err (Ok tt) opened done)
  unfolding left_by
  no_value true opened done g = refl
  no_value false true true g = refl
  no_value false true false g = refl
  no_value false false done g = refl

pub resize_flat : (g : Given) (c : Cursor) (l : Lengths) (summed : ℕ)
    → left_by number_of number_answer head_after (bad_head g.head || ltb 1 summed) g (size.resize base (eqb summed 1) (state_of g) c (list_of l)) ≡ flat.resize g c l summed
unfolding flat.resize calls.update calls.set_lengths
resize_flat g c l summed = go (eqb summed 1)
  where
    go : (t : Bool) → (let bad = bad_head g.head || ltb 1 summed in
        left_by number_of number_answer head_after bad g (size.resize base t (state_of g) c (list_of l))
        ≡ cond t (left_by number_of number_answer head_after bad g (calls.update base (state_of g) c (list_of l))) (left_by number_of outcome_answer head_after bad g (calls.set_lengths base (state_of g) c (list_of l))))
    go true = refl
    go false =
        let cs = calls.resize_causes base (state_of g) c (list_of l) in
        let r = (calls.resized base (state_of g) c (list_of l)).0 in
        no_value (state_of g) (refusal cs) r (bad_head g.head || ltb 1 summed) (eqb (refusal cs) 0) (eqb r.number 0) g
