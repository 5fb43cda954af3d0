-- The number of each refusal (documents 01 and 02), and an answer with it in the refusal's place. Assumes nothing.
use Rattle.std.specs.Prelude.{ℕ, Result, Ok, Err}
use Rattle.model.specs.declared.refusal.Refusal.{Refusal}
use Rattle.model.specs.declared.refusal.Refusal.TheVariants as refusal
use Rattle.model.specs.declared.way.Broken.{Broken}

abbrev pub refusal_number : Refusal → ℕ
refusal_number refusal.Size = 1
refusal_number refusal.Area = 2
refusal_number refusal.Stamp = 3
refusal_number refusal.Id = 4
refusal_number refusal.Position = 5
refusal_number refusal.Split = 6
refusal_number refusal.Total = 7
refusal_number refusal.Full = 8
refusal_number refusal.Link = 9
refusal_number refusal.Field = 10
refusal_number refusal.Records = 11
refusal_number refusal.Buffer = 12
refusal_number refusal.Leaf = 13
refusal_number refusal.Slot = 14
refusal_number refusal.Parent = 15
refusal_number refusal.Edits = 16
refusal_number refusal.Hollow = 17
refusal_number refusal.Over = 18
refusal_number refusal.Shares = 19
refusal_number refusal.Bounds = 20
refusal_number refusal.Unsound = 21

-- what a call answers, or the number of its refusal
abbrev pub Numbered : Type 0 → Type 0
Numbered A = Result A ℕ

abbrev pub numbered : {A : Type 0} → Result A Refusal → Numbered A
numbered (Ok x) = Ok x
numbered (Err r) = Err (refusal_number r)

-- the number of a refusal, 0 where there is none
abbrev pub number_of : {A : Type 0} → Result A Refusal → ℕ
number_of (Ok x) = 0
number_of (Err r) = refusal_number r

-- a walk's: 9 where it led outside
abbrev pub broken_number : {A : Type 0} → Result A Broken → ℕ
broken_number (Ok x) = 0
broken_number (Err e) = 9

abbrev pub broken : Broken
broken = record {}
