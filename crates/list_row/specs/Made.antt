-- Records on a tree made anew, and the tree that the door and rowrun start from (document 01, "Door and program"). Assumes nothing.
use Rattle.model.specs.Numbered.{Numbered}
use Rattle.std.specs.Prelude.{List, ℕ, Ok, Err}
use Rattle.model.specs.Kind.{base}
use Rattle.model.specs.Length.{list_of}
use Rattle.model.specs.Row.{Row, made_row}
use Rattle.model.specs.State.{State}
use Rattle.model.specs.Calls.{Reply, make}
use Rattle.model.specs.declared.length.Lengths.{Lengths}
use Rattle.list_row.specs.Run.{Ran, ran, run_on}

-- records on what a make left; where it was refused, its number, and the output as it was
abbrev pub run_made : Numbered (Unit {0}) → State → List ℕ → List ℕ → Ran
run_made (Ok tt) s bs out = run_on s bs out
run_made (Err n) s bs out = ran s (Err n) out

-- make's causes come first, then 11
unfoldable pub make_and_run : ℕ → ℕ → List ℕ → List ℕ → List ℕ → List ℕ → List ℕ → List ℕ → Ran
make_and_run fan limit l ls xs hs bs out = let m = make base fan limit l ls xs hs in run_made m.answer m.after bs out

-- the door's tree, and the row that it stands for
abbrev pub first_lengths : Lengths
first_lengths = record { prepare = 0; effect = 0; lines = 0 }

abbrev pub door_tree : List ℕ → List ℕ → List ℕ → Reply (Numbered (Unit {0}))
door_tree ls xs hs = make base 8 512 (list_of first_lengths) ls xs hs

abbrev pub door_row : Row
door_row = made_row 512 (list_of first_lengths)
