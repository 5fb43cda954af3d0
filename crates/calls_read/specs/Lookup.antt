-- The head, the answer and the count of a lookup, as the code hands them back together, and whether the finger stayed in its leaf. Assumes nothing.
use Rattle.model.specs.declared.head.Cursor.{Cursor}
use Rattle.model.specs.declared.refusal.Refusal.{Refusal}
use Rattle.model.specs.declared.refusal.Refusal.TheVariants as refusal
use Rattle.std.specs.Prelude.{◌≡◌, ℕ, Bool, false, Ok, Err, Some, None, Option, Result}
use Rattle.model.specs.Locate.{effect_at, prepare_at}
use Rattle.model.specs.Place.{with_finger}
use Rattle.model.specs.Calls.{cursor_at}
use Rattle.model.specs.declared.head.Head.{Head}
use Rattle.model.specs.declared.head.Finger.{Finger}
use Rattle.model.specs.Locate.{Search}
use Rattle.model.specs.declared.answer.LocatedReply.{LocatedReply}

abbrev pub located_reply : Head → Result (Cursor × ℕ × ℕ × ℕ) Refusal → ℕ → Bool → LocatedReply
located_reply h a n b = record { head = h; answer = a; examined = n; stayed = b }

abbrev pub hit_of : Head → Finger → ℕ → ℕ → Bool → LocatedReply
hit_of h f offset n b = located_reply (with_finger (Some f) h) (Ok (cursor_at h.stamp f.leaf f.slot, offset, effect_at f, prepare_at f)) n b

-- a refusal counts nothing
abbrev pub search_of : Head → Search → ℕ → LocatedReply
search_of h (Ok (Some (f, offset))) n = hit_of h f offset n false
search_of h (Ok None) n = located_reply h (Err refusal.Position) 0 false
search_of h (Err _) n = located_reply h (Err refusal.Link) 0 false

-- the finger m is f moved within its leaf: all but its slot and what stands before that in the leaf is as it was
pub record MovedInLeaf (f m : Finger) : Type 0 where
  pub view : m.view ≡ f.view
  pub leaf : m.leaf ≡ f.leaf
  pub start : m.start ≡ f.start
  pub effect : m.effect ≡ f.effect
  pub prepare : m.prepare ≡ f.prepare

abbrev pub Stayed : Option Finger → Option Finger → Type 0
Stayed None t = ⊥
Stayed (Some f) None = ⊥
Stayed (Some f) (Some m) = MovedInLeaf f m
