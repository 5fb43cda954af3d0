-- What a host reads in the answers that the full tree's exports don't have, by the names of their fields. Assumes nothing.
use Rattle.std.specs.Prelude.{◌≡◌, refl, ℕ, Ok, Err, Some, None}
use Rattle.model.specs.ById.{divided_id_answer}
use Rattle.model.specs.declared.head.Cursor.{Cursor}
use Rattle.model.specs.declared.number.EntryId.{EntryId}
use Rattle.smelvock_marshal.specs.Flat.{number_of}
use Rattle.calls_by_id.specs.Answer.{following_answer}
use Rattle.calls_planning.specs.Bounds.{ranged_answer}
use Rattle.calls_planning.specs.declared.bounds.Bounds.{Bounds}
use Rattle.smelvock_planning.specs.Calls.{ranged_of}

-- number 0 and the values; after the last entry the value is 4,294,967,295, which is no id
pub record ToldValues (b : Bounds) (i : EntryId) (c d : Cursor) : Type 0 where
  pub lengths : ranged_of (ranged_answer (Ok b)) ≡ record { number = 0; lowest = b.lowest; highest = b.highest }
  pub next : number_of (following_answer (Ok (Some i))) ≡ record { number = 0; value = i.0 }
  pub last : number_of (following_answer (Ok None)) ≡ record { number = 0; value = 4294967295 }
  pub split : number_of (divided_id_answer (Ok (i, c, d))) ≡ record { number = 0; value = i.0 }

pub reads : (b : Bounds) (i : EntryId) (c d : Cursor) → ToldValues b i c d
reads b i c d = record {
  lengths = refl;
  next = refl;
  last = refl;
  split = refl;
}

-- a refusal's number, and zeros
pub record ToldRefusal (n : ℕ) : Type 0 where
  pub lengths : ranged_of (ranged_answer (Err n)) ≡ record { number = n; lowest = 0; highest = 0 }
  pub next : number_of (following_answer (Err n)) ≡ record { number = n; value = 0 }
  pub split : number_of (divided_id_answer (Err n)) ≡ record { number = n; value = 0 }

pub refuses : (n : ℕ) → ToldRefusal n
refuses n = record {
  lengths = refl;
  next = refl;
  split = refl;
}
