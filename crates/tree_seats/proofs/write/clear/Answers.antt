-- `tree_seats::write::clear`: eight zeros written to the last eight words are those words.
use Rattle.std.proofs.Common.{[], ◌∷◌, refl}
use lib.Seq.{length-sets}
use Rattle.tree_seats.proofs.WriteLaws.{in_words, cleared}
use Rattle.tree_seats.proofs.write.clear.Goals as goal

pub bounds-seats-9 : goal.bounds-seats-9
bounds-seats-9 c = in_words c.args.seats.now ([]) 9 9 refl c.requires

pub bounds-seats-10 : goal.bounds-seats-10
bounds-seats-10 c = in_words c.args.seats.now (_ ∷ []) 9 10 refl c.requires

pub bounds-seats-11 : goal.bounds-seats-11
bounds-seats-11 c = in_words c.args.seats.now (_ ∷ _ ∷ []) 9 11 refl c.requires

pub bounds-seats-12 : goal.bounds-seats-12
bounds-seats-12 c = in_words c.args.seats.now (_ ∷ _ ∷ _ ∷ []) 9 12 refl c.requires

pub bounds-seats-13 : goal.bounds-seats-13
bounds-seats-13 c = in_words c.args.seats.now (_ ∷ _ ∷ _ ∷ _ ∷ []) 9 13 refl c.requires

pub bounds-seats-14 : goal.bounds-seats-14
bounds-seats-14 c = in_words c.args.seats.now (_ ∷ _ ∷ _ ∷ _ ∷ _ ∷ []) 9 14 refl c.requires

pub bounds-seats-15 : goal.bounds-seats-15
bounds-seats-15 c = in_words c.args.seats.now (_ ∷ _ ∷ _ ∷ _ ∷ _ ∷ _ ∷ []) 9 15 refl c.requires

pub bounds-seats-16 : goal.bounds-seats-16
bounds-seats-16 c = in_words c.args.seats.now (_ ∷ _ ∷ _ ∷ _ ∷ _ ∷ _ ∷ _ ∷ []) 9 16 refl c.requires

pub shape_of-seats : goal.shape_of-seats
shape_of-seats c = length-sets c.args.seats.now 9 (_ ∷ _ ∷ _ ∷ _ ∷ _ ∷ _ ∷ _ ∷ _ ∷ [])

pub returns : goal.returns
returns c = cleared c.args.seats.now c.requires
