-- A call of a list resets, inserts, splits, or has nothing to do with seats: what holds of each of the four holds of every call, by id and on cursors.
use Rattle.std.specs.Prelude.{◌≡◌, refl, Bool, List, ℕ, Option}
use Rattle.std.proofs.Common.{arith}
use Rattle.model.specs.Row as row
use Rattle.model.specs.Row.{Call}
use Rattle.model.specs.ByCursor as by
use Rattle.model.specs.ByCursor.{CursorCall}
use Rattle.model.specs.Promise.{Adds}
use Rattle.model.specs.SeatedList as list
use Rattle.model.specs.SeatedList.{deed, cursor_deed}
use Rattle.model.specs.declared.head.Cursor.{Cursor}

pub by_deed : (P : Call → Type 0) → ((l : List ℕ) → P (row.reset l)) → ((i : ℕ) (l : List ℕ) → P (row.insert i l)) → ((flag : Bool) (i : ℕ) (l : List ℕ) → P (row.split flag i l))
    → ((c : Call) → deed c ≡ list.nothing → P c) → (c : Call) → P c
by_deed P r i s n (row.reset l) = r l
by_deed P r i s n (row.insert j l) = i j l
by_deed P r i s n (row.split flag j l) = s flag j l
by_deed P r i s n (row.set_lengths j l) = n (row.set_lengths j l) refl
by_deed P r i s n (row.update j l) = n (row.update j l) refl
by_deed P r i s n (row.lookup v x) = n (row.lookup v x) refl
by_deed P r i s n (row.rank v j) = n (row.rank v j) refl
by_deed P r i s n (row.next j) = n (row.next j) refl
by_deed P r i s n (row.compare j k) = n (row.compare j k) refl
by_deed P r i s n (row.lengths j) = n (row.lengths j) refl
by_deed P r i s n row.count = n row.count refl
by_deed P r i s n row.first = n row.first refl
by_deed P r i s n row.malformed = n row.malformed refl

-- what has nothing to do with seats adds no entry
pub nothing_added : (c : Call) → deed c ≡ list.nothing → Adds c → ⊥
nothing_added (row.insert i l) e h = (let z : ◌≡◌ {A = ℕ} 0 1 = cc in omega arith)
nothing_added (row.split flag i l) e h = (let z : ◌≡◌ {A = ℕ} 0 1 = cc in omega arith)
nothing_added (row.reset l) e h = h
nothing_added (row.set_lengths i l) e h = h
nothing_added (row.update i l) e h = h
nothing_added (row.lookup v x) e h = h
nothing_added (row.rank v i) e h = h
nothing_added (row.next i) e h = h
nothing_added (row.compare i j) e h = h
nothing_added (row.lengths i) e h = h
nothing_added row.count e h = h
nothing_added row.first e h = h
nothing_added row.malformed e h = h

pub by_cursor_deed : (P : CursorCall → Type 0) → ((l : List ℕ) → P (by.reset l)) → ((t : Option Cursor) (l : List ℕ) → P (by.insert t l)) → ((flag : Bool) (c : Cursor) (l : List ℕ) → P (by.split flag c l))
    → ((c : CursorCall) → cursor_deed c ≡ list.nothing → P c) → (c : CursorCall) → P c
by_cursor_deed P r i s n (by.reset l) = r l
by_cursor_deed P r i s n (by.insert t l) = i t l
by_cursor_deed P r i s n (by.split flag c l) = s flag c l
by_cursor_deed P r i s n (by.set_lengths c l) = n (by.set_lengths c l) refl
by_cursor_deed P r i s n (by.update c l) = n (by.update c l) refl
by_cursor_deed P r i s n (by.locate v x) = n (by.locate v x) refl
by_cursor_deed P r i s n (by.select v x) = n (by.select v x) refl
by_cursor_deed P r i s n (by.rank v c) = n (by.rank v c) refl
by_cursor_deed P r i s n (by.next c) = n (by.next c) refl
by_cursor_deed P r i s n (by.compare a b) = n (by.compare a b) refl
by_cursor_deed P r i s n (by.lengths c) = n (by.lengths c) refl
by_cursor_deed P r i s n (by.id c) = n (by.id c) refl
by_cursor_deed P r i s n (by.cursor i') = n (by.cursor i') refl
by_cursor_deed P r i s n by.first = n by.first refl
by_cursor_deed P r i s n by.len = n by.len refl
by_cursor_deed P r i s n by.is_empty = n by.is_empty refl
