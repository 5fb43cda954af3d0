-- What a refused call of a tree without seats leaves of the lent head: zeros after a make, the words as they were after any other. Assumes nothing.
use Rattle.model.specs.Numbered.{Numbered}
use Rattle.std.specs.Prelude.{◌≡◌, ◌≢◌, Bool, cond, not, List, ◌++◌, ℕ, length, replicate, eqb, Ok, Err, None}
use Rattle.std.proofs.Math.Path.{refl}
use Rattle.std.proofs.Math.Bool.{true, false}
use Rattle.std.proofs.Common.{ne_eqb}
use Rattle.model.specs.Lists.{refusal}
use Rattle.model.specs.Row.{Answer, Moved}
use Rattle.model.specs.State.{State, state, head_of}
use Rattle.model.specs.Answer.{outcome_answer}
use Rattle.model.specs.Calls as calls
use Rattle.model.specs.Calls.{Reply, reply}
use Rattle.model.specs.declared.shape.Kind.{Kind}
use Rattle.smelvock_marshal.specs.Flat.{head_words, head_after}
use Rattle.smelvock_marshal.specs.Lent.{Given, left_by, unseated_make}

module _ (K : Kind) (fan limit : ℕ) (l : List ℕ) (g : Given) where
  -- what a make leaves, done or refused
  abbrev Zeros : Reply (Numbered (Unit {0})) → Type 0
  Zeros r = (outcome_answer r.answer).number ≢ 0 → head_words r.after.head ++ replicate 17 0 ≡ replicate 36 0

  by_causes : (good : Bool) (n : ℕ)
      → Zeros (cond good (reply (calls.begun K fan limit 1 l g.leaves g.inners g.homes) (Ok tt))
      (reply (state (head_of 0 0 0 0 0 0 0 0 None) g.leaves g.inners g.homes) (Err n)))
  unfolding head_words
  by_causes true n h = absurd (h refl)
  by_causes false n h = refl

  all : Zeros (calls.make K fan limit l g.leaves g.inners g.homes)
  unfolding calls.make
  all = let n = refusal (calls.make_causes K fan limit l g.leaves g.inners g.homes) in by_causes (eqb n 0) n

  pub make_zeros : not (eqb (length g.head) 36) ≡ false → (unseated_make K fan limit l g).reply ≢ 0 → (unseated_make K fan limit l g).head ≡ replicate 36 0
  unfolding left_by
  make_zeros e = rw e all

-- of the others: `bad` is what is refused by 10, m what the call does
pub head_kept : {R : Type 0} (flat : Answer → R) (g : Given) (m : Moved State) (bad : Bool) → (bad ≡ false → m.answer.number ≢ 0) → (left_by flat head_after bad g m).head ≡ g.head
unfolding left_by head_after
head_kept flat g m true n = refl
head_kept flat g m false n = rw (ne_eqb m.answer.number 0 (n refl))
