-- The door's make isn't refused, so a run on what it makes is the row's. Assumes nothing.
use Rattle.model.specs.Numbered.{Numbered}
use Rattle.std.specs.Prelude.{Ok, Err}
use mathlib.Core.Path.{◌≡◌, refl, sym, ap, ◌∙◌, subst}
use mathlib.Core.Bool.{Bool, true, false}
use mathlib.Core.List.{List}
use Prim.Native.Nat.{ℕ}
use lib.ListN.{length}
use Rattle.model.specs.Length.{list_of}
use Rattle.list_row.specs.Run.{fit, Ran, run_on, AsRow}
use Rattle.list_row.specs.Made.{run_made, make_and_run, first_lengths, door_tree, door_row}
use Rattle.list_row.proofs.MadeLaws.{door_made}
use Rattle.door.specs.Door.{door_answer, door_on}

module _ (ls xs hs : List ℕ) (el : length ls ≡ 4480) (ex : length xs ≡ 4480) (eh : length hs ≡ 512) (bs out : List ℕ) (m : Ran)
    (e : m ≡ make_and_run 8 512 (list_of first_lengths) ls xs hs bs out) (as_row : (door_tree ls xs hs).answer ≡ Ok tt → fit bs out ≡ true → AsRow bs m 8 door_row) where
  abbrev Good : Numbered (Unit {0}) → Type 0
  Good (Ok tt) = door_answer 0 m.out ≡ door_on bs out
  Good (Err n) = door_answer n m.out ≡ door_on bs out

  done : (door_tree ls xs hs).answer ≡ Ok tt
  done = door_made ls xs hs el ex eh

  run : m ≡ run_on (door_tree ls xs hs).after bs out
  unfolding make_and_run
  run = e ∙ ap (λ (a : Numbered (Unit {0})). run_made a (door_tree ls xs hs).after bs out) done

  by_fit : (b : Bool) → fit bs out ≡ b → Good m.answer
  unfolding run_on door_on
  by_fit true f =
      let d : m.answer ≡ Ok tt = ap (λ (r : Ran). r.answer) run ∙ rw f in
      subst Good (sym d) (rw f (ap (door_answer 0) (as_row done f).says))
  by_fit false f =
      let d : m.answer ≡ Err 11 = ap (λ (r : Ran). r.answer) run ∙ rw f in
      let o : m.out ≡ out = ap (λ (r : Ran). r.out) run ∙ rw f in
      subst Good (sym d) (rw f (ap (door_answer 11) o))

  pub by_answer : (a : Numbered (Unit {0})) → m.answer ≡ a → Good a
  by_answer a q = subst Good q (by_fit (fit bs out) refl)
