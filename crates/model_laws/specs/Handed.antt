-- What a `?` hands on: the refusal that its call answered, or Link for a walk that led outside. Assumes nothing.
use Rattle.std.specs.Prelude.{◌≡◌, refl, Result, Ok, Err, Option, None, IsErrAnd, ok_or}
use mathlib.Core.Path.{ap}
use Rattle.model.specs.Numbered.{refusal_number, numbered, number_of, broken, broken_number}
use Rattle.model.specs.declared.refusal.Refusal.{Refusal}
use Rattle.model.specs.declared.way.Broken.{Broken}

module _ {A : Type 0} (why : Refusal) (r : Result A Refusal) (h : IsErrAnd r (λ x. x ≡ why)) where
  pub handed : numbered r ≡ Err (refusal_number why)
  handed = go r h
    where
      go : (q : Result A Refusal) → IsErrAnd q (λ x. x ≡ why) → numbered q ≡ Err (refusal_number why)
      go (Ok x) f = absurd f
      go (Err x) f = ap (λ (y : Refusal). Err (refusal_number y)) f

  pub handed_number : number_of r ≡ refusal_number why
  handed_number = go r h
    where
      go : (q : Result A Refusal) → IsErrAnd q (λ x. x ≡ why) → number_of q ≡ refusal_number why
      go (Ok x) f = absurd f
      go (Err x) f = ap refusal_number f

module _ {A : Type 0} (why : Broken) (r : Result A Broken) (h : IsErrAnd r (λ x. x ≡ why)) where
  pub handed_broken : r ≡ Err broken
  handed_broken = go r h
    where
      go : (q : Result A Broken) → IsErrAnd q (λ x. x ≡ why) → q ≡ Err broken
      go (Ok x) f = absurd f
      go (Err x) f = refl

  pub handed_nine : broken_number r ≡ 9
  handed_nine = ap broken_number handed_broken

-- nothing, refused by why
pub none_refused : {A : Type 0} (o : Option A) (why e : Refusal) → Err e ≡ ok_or o why → o ≡ None → e ≡ why
none_refused o why e v n = cc (rw n at v)
