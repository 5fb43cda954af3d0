-- Records of kind 3 through the door (document 02, CR 6): with 2 in their stead it answers the same but for the kind byte. Assumes nothing.
use Rattle.std.specs.Prelude.{◌≡◌, refl, Bool, true, false, cond, List, ℕ}
use Rattle.std.proofs.Common.{sym, subst}
use Rattle.model.specs.Kind.{base}
use Rattle.model.specs.Row.{row_step}
use Rattle.list_row.specs.Run.{records_of, played, fit}
use Rattle.list_row.specs.Made.{door_row}
use Rattle.list_row.specs.KindThree.{ButForKind, as_twos, alike, same_fit, played_three}
use Rattle.door.specs.Door.{DoorAnswer, door_answer, door_on}

-- two answers of the door that are alike but for the kind of an answer record
pub record DoorAlike (a b : DoorAnswer) : Type 0 where
  pub number : a.number ≡ b.number
  pub out : ButForKind a.out b.out

abbrev whole_door : List ℕ → DoorAnswer
whole_door bs = door_answer 0 (played (row_step base) door_row (records_of bs))

pub door_three : (bs out : List ℕ) → DoorAlike (door_on (as_twos bs) out) (door_on bs out)
unfolding door_on
door_three bs out =
    subst (λ (c : Bool). DoorAlike (cond c (whole_door (as_twos bs)) (door_answer 11 out)) (cond (fit bs out) (whole_door bs) (door_answer 11 out))) (sym (same_fit bs out)) (go (fit bs out))
  where
    go : (b : Bool) → DoorAlike (cond b (whole_door (as_twos bs)) (door_answer 11 out)) (cond b (whole_door bs) (door_answer 11 out))
    go true = record { number = refl; out = played_three bs (row_step base) door_row }
    go false = record { number = refl; out = alike out }
