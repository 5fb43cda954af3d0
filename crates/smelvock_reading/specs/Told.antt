-- What a host reads in a lookup's answer, by the names of its fields. Assumes nothing.
use Rattle.std.specs.Prelude.{◌≡◌, refl, ℕ, Ok, Err}
use Rattle.model.specs.declared.number.EntryId.{EntryId}
use Rattle.calls_by_id.specs.Answer.{looked_answer}
use Rattle.smelvock_reading.specs.Calls.{looked_of}

-- number 0, the entry, the offset into it and its position
pub reads : (i : EntryId) (offset position prepare : ℕ) → looked_of (looked_answer (Ok (i, offset, position, prepare))) ≡ record { number = 0; id = i.0; offset = offset; position = position }
reads i offset position prepare = refl

-- a refusal's number, and zeros
pub refuses : (n : ℕ) → looked_of (looked_answer (Err n)) ≡ record { number = n; id = 0; offset = 0; position = 0 }
refuses n = refl
