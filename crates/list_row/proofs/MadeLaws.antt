-- What make leaves stands for the row that it begins, so records on it get that row's answers. Assumes nothing.
use Rattle.model.specs.Numbered.{Numbered}
use Rattle.std.specs.Prelude.{Ok, Err}
use mathlib.Core.Path.{◌≡◌, refl, sym, ap, ◌∙◌, subst}
use mathlib.Core.Bool.{true}
use mathlib.Core.List.{List, []}
use Prim.Native.Nat.{ℕ, ◌<◌}
use native.Mathlib.Omega.{arith}
use lib.ListN.{length}
use Rattle.model.specs.Kind.{base}
use Rattle.model.specs.Length.{list_of}
use Rattle.model.specs.Lists.{All, refusal}
use Rattle.model.specs.Row.{made_row}
use Rattle.model.specs.State.{State}
use Rattle.model.specs.Calls.{Reply, reply, make}
use Rattle.model.specs.Promise.{Words, finally, Represents, Invariant}
use Rattle.model_theory.specs.TopById.{whole}
use Rattle.list_row.specs.Run.{fit, Ran, ran, run_on, AsRow}
use Rattle.list_row.specs.Made.{run_made, make_and_run, first_lengths, door_tree, door_row}
use Rattle.list_row.proofs.AsRow.{as_row}
use Rattle.list_row.proofs.Words.{Bytes}

-- three words are lengths
pub three_words : (p e n : ℕ) → p < 4294967296 → e < 4294967296 → n < 4294967296 → Words base (list_of (record { prepare = p; effect = e; lines = n }))
unfolding All
three_words p e n hp he hn = record { long = refl; small = (hp, (he, (hn, tt))) }

module _ (fan limit : ℕ) (l ls xs hs : List ℕ) (small : Words base l) where
  -- the tree that a make leaves
  made_kept : (make base fan limit l ls xs hs).answer ≡ Ok tt → Invariant base fan (make base fan limit l ls xs hs).after (made_row limit l)
  unfolding All finally
  made_kept given = (whole base (omega arith) fan limit l ls xs hs small given [] tt).1

  pub made_represents : (make base fan limit l ls xs hs).answer ≡ Ok tt → Represents base (make base fan limit l ls xs hs).after (made_row limit l)
  made_represents given = let k = made_kept given in record { sound = k.sound; entries = k.entries; limit = k.limit }

  module _ (bs out : List ℕ) (b : Bytes bs) where
    abbrev pub MadePromises : Ran → Type 0
    MadePromises m = (m ≡ make_and_run fan limit l ls xs hs bs out) × ((make base fan limit l ls xs hs).answer ≡ Ok tt → fit bs out ≡ true → AsRow bs m fan (made_row limit l))

    promised : (m : Ran) → m ≡ make_and_run fan limit l ls xs hs bs out → MadePromises m
    unfolding make_and_run
    promised m e = (
      e,
      λ given f.
          (let same : m ≡ run_on (make base fan limit l ls xs hs).after bs out = e ∙ ap (λ (a : Numbered (Unit {0})). run_made a (make base fan limit l ls xs hs).after bs out) given in
          subst (λ (x : Ran). AsRow bs x fan (made_row limit l)) (sym same)
          (subst (λ (n : ℕ). AsRow bs (run_on (make base fan limit l ls xs hs).after bs out) n (made_row limit l)) (made_kept given).fan_is
          (as_row (make base fan limit l ls xs hs).after bs out (made_row limit l) b f (made_represents given)))),
    )

    module _ (s : State) (a : Numbered (Unit {0})) (e : reply s a ≡ make base fan limit l ls xs hs) where
      left : (c : Numbered (Unit {0})) → a ≡ c → run_made c s bs out ≡ make_and_run fan limit l ls xs hs bs out
      unfolding make_and_run
      left c q = ap (λ (x : Numbered (Unit {0})). run_made x s bs out) (sym q) ∙ ap (λ (r : Reply (Numbered (Unit {0}))). run_made r.answer r.after bs out) e

      pub make_refused : (n : ℕ) → a ≡ Err n → MadePromises (ran s a out)
      make_refused n q = promised (ran s a out) (ap (λ (x : Numbered (Unit {0})). ran s x out) q ∙ left (Err n) q)

      pub make_done : a ≡ Ok tt → (m : Ran) → m ≡ run_on s bs out → MadePromises m
      make_done q m r = promised m (r ∙ left (Ok tt) q)

-- the door's tree on areas of its own lengths
module _ (ls xs hs : List ℕ) (el : length ls ≡ 4480) (ex : length xs ≡ 4480) (eh : length hs ≡ 512) where
  pub door_made : (door_tree ls xs hs).answer ≡ Ok tt
  unfolding make refusal
  door_made = rw (el, ex, eh)

  pub door_represents : (s : State) (a : Numbered (Unit {0})) → reply s a ≡ door_tree ls xs hs → Represents base s door_row
  door_represents s a e =
      subst (λ (r : Reply (Numbered (Unit {0}))). Represents base r.after door_row) (sym e) (made_represents 8 512 (list_of first_lengths) ls xs hs (three_words 0 0 0 (omega arith) (omega arith) (omega arith)) door_made)
