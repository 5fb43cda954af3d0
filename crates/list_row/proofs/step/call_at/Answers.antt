-- `list_row::step::call_at`: each call is its own function at the cursors, and the answer its number and values.
use Rattle.list_row.proofs.StepLaws.{reset_at, insert_at_law, split_at, lookup_at, rank_at_law, next_at, compare_at, lengths_at_law, count_at, first_at_law, malformed_at, by_call, by_resize}
use Rattle.list_row.proofs.step.call_at.Goals as goal

pub returns-in-Reset : goal.returns-in-Reset
returns-in-Reset c =
    let reset = c.reset in
    by_call _ _ _ _ _ c.in-Reset.is _ _ _ _ _ (reset_at _ _ _ _ _ _ reset.ensures) _ c.outcome.ensures

pub returns-in-Insert : goal.returns-in-Insert
returns-in-Insert c =
    let target = c.target in
    let insert = c.insert in
    by_call _ _ _ _ _ c.in-Insert.is _ _ _ _ _ (insert_at_law _ _ _ _ _ _ _ target.ensures _ insert.ensures) _ c.inserted.ensures

pub returns-in-Split : goal.returns-in-Split
returns-in-Split c =
    let split-entry = c.split_entry in
    by_call _ _ _ _ _ c.in-Split.is _ _ _ _ _ (split_at _ _ _ _ _ _ _ _ split-entry.ensures) _ c.divided.ensures

pub returns-in-Resize : goal.returns-in-Resize
returns-in-Resize c =
    let resize = c.resize in
    by_resize _ _ _ _ _ _ _ c.in-Resize.is _ _ _ _ _ resize.ensures _ c.updated.ensures

pub returns-in-Lookup : goal.returns-in-Lookup
returns-in-Lookup c =
    by_call _ _ _ _ _ c.in-Lookup.is _ _ _ _ _ (lookup_at _ _ _ _ _ _ c.locate.ensures) _ c.looked.ensures

pub returns-in-Rank : goal.returns-in-Rank
returns-in-Rank c =
    by_call _ _ _ _ _ c.in-Rank.is _ _ _ _ _ (rank_at_law _ _ _ _ _ _ c.entry_to_char_index.ensures) _ c.number.ensures

pub returns-in-Next : goal.returns-in-Next
returns-in-Next c =
    by_call _ _ _ _ _ c.in-Next.is _ _ _ _ _ (next_at _ _ _ _ _ c.next.ensures) _ c.following.ensures

pub returns-in-Compare : goal.returns-in-Compare
returns-in-Compare c =
    by_call _ _ _ _ _ c.in-Compare.is _ _ _ _ _ (compare_at _ _ _ _ _ _ c.cmp.ensures) _ c.compared.ensures

pub returns-in-LengthsOf : goal.returns-in-LengthsOf
returns-in-LengthsOf c =
    by_call _ _ _ _ _ c.in-LengthsOf.is _ _ _ _ _ (lengths_at_law _ _ _ _ _ c.lengths.ensures) _ c.measured.ensures

pub returns-in-Count : goal.returns-in-Count
returns-in-Count c =
    by_call _ _ _ _ _ c.in-Count.is _ _ _ _ _ (count_at _ _ _ _ c.len.ensures) _ c.number-in-Count.ensures

pub returns-in-First : goal.returns-in-First
returns-in-First c =
    by_call _ _ _ _ _ c.in-First.is _ _ _ _ _ (first_at_law _ _ _ _ c.first.ensures) _ c.named.ensures

pub returns-in-Malformed : goal.returns-in-Malformed
returns-in-Malformed c = by_call _ _ _ _ _ c.in-Malformed.is _ _ _ _ _ (malformed_at _ _ _) _ c.refuse.ensures
