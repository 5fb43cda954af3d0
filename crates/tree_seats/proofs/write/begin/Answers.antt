-- `tree_seats::write::begin`: the flag, the shares and no charges are all seventeen words.
use Rattle.std.proofs.Common.{[], ◌∷◌, refl, ◌∙◌}
use lib.Seq.{length-sets}
use Rattle.tree_seats.proofs.WriteLaws.{in_words, begun}
use Rattle.tree_seats.proofs.write.begin.Goals as goal

pub bounds-seats-0 : goal.bounds-seats-0
bounds-seats-0 c = in_words c.args.seats.now ([]) 0 0 refl c.requires.0

pub bounds-seats-1 : goal.bounds-seats-1
bounds-seats-1 c = in_words c.args.seats.now (_ ∷ []) 0 1 refl c.requires.0

pub bounds-seats-2 : goal.bounds-seats-2
bounds-seats-2 c = in_words c.args.seats.now (_ ∷ _ ∷ []) 0 2 refl c.requires.0

pub bounds-seats-3 : goal.bounds-seats-3
bounds-seats-3 c = in_words c.args.seats.now (_ ∷ _ ∷ _ ∷ []) 0 3 refl c.requires.0

pub bounds-seats-4 : goal.bounds-seats-4
bounds-seats-4 c = in_words c.args.seats.now (_ ∷ _ ∷ _ ∷ _ ∷ []) 0 4 refl c.requires.0

pub bounds-seats-5 : goal.bounds-seats-5
bounds-seats-5 c = in_words c.args.seats.now (_ ∷ _ ∷ _ ∷ _ ∷ _ ∷ []) 0 5 refl c.requires.0

pub bounds-seats-6 : goal.bounds-seats-6
bounds-seats-6 c = in_words c.args.seats.now (_ ∷ _ ∷ _ ∷ _ ∷ _ ∷ _ ∷ []) 0 6 refl c.requires.0

pub bounds-seats-7 : goal.bounds-seats-7
bounds-seats-7 c = in_words c.args.seats.now (_ ∷ _ ∷ _ ∷ _ ∷ _ ∷ _ ∷ _ ∷ []) 0 7 refl c.requires.0

pub bounds-seats-8 : goal.bounds-seats-8
bounds-seats-8 c = in_words c.args.seats.now (_ ∷ _ ∷ _ ∷ _ ∷ _ ∷ _ ∷ _ ∷ _ ∷ []) 0 8 refl c.requires.0

pub clear-requires : goal.clear-requires
clear-requires c = length-sets c.args.seats.now 0 (_ ∷ _ ∷ _ ∷ _ ∷ _ ∷ _ ∷ _ ∷ _ ∷ _ ∷ []) ∙ c.requires.0

pub shape_of-seats : goal.shape_of-seats
shape_of-seats c = c.clear.auto.seats ∙ length-sets c.args.seats.now 0 (_ ∷ _ ∷ _ ∷ _ ∷ _ ∷ _ ∷ _ ∷ _ ∷ _ ∷ [])

pub returns : goal.returns
returns c = begun c.args.seats.now c.args.seated c.args.shares.now _ c.requires.0 c.requires.1 c.clear.ensures
