-- `list_records::call::decode`: each kind is its place in the list of kinds, under the same condition.
use Rattle.std.proofs.Common.{◌≡◌, arith}
use Rattle.std.proofs.lemmas.Grind.{common_steps}
use borrow.Author.Rules.{rules}
use Rattle.model.specs.Record.{kinds, no_lengths}
use Rattle.list_records.specs.Said.{plain_fields, said}
use Rattle.list_records.proofs.Laws.{at_kind, no_kind}
use Rattle.list_records.proofs.call.decode.Goals as goal
use Rattle.list_records.proofs.call.decode.Goals.{After-view_of-view, then-f-eq0, else-f-eq0, then-f-eq0-2, else-f-eq0-2, then-plain, else-plain, then-viewed, else-viewed, then-viewed-2, else-viewed-2, then-plain-2, else-plain-2, then-plain-3, else-plain-3, then-f-eq0-3, else-f-eq0-3, then-plain-4, else-plain-4, then-plain-5, else-plain-5, then-no_id, else-no_id, then-plain-6, else-plain-6, then-no_id-2, else-no_id-2}

tested : (c : After-view_of-view) → c.if-f-eq0-2.no_lengths ≡ no_lengths (plain_fields c.args.f)
tested c =
    elim c.if-f-eq0.branch [
      | then-f-eq0 v ↦ elim c.if-f-eq0-2.branch [ then-f-eq0-2 w ↦ grind (arith, common_steps) | else-f-eq0-2 w ↦ grind (arith, common_steps) ]
      | else-f-eq0 v ↦ elim c.if-f-eq0-2.branch [ then-f-eq0-2 w ↦ grind (arith, common_steps) | else-f-eq0-2 w ↦ grind (arith, common_steps) ]
    ]

pub returns-after-plain : goal.returns-after-plain
unfolding said kinds
returns-after-plain c = at_kind (plain_fields c.args.f) 1 c.in-1.is _ (elim c.if-plain.branch [ then-plain w ↦ grind (arith, common_steps) | else-plain w ↦ grind (arith, common_steps) ])

pub returns-in-2 : goal.returns-in-2
unfolding said kinds
returns-in-2 c = at_kind (plain_fields c.args.f) 2 c.in-2.is _ c.only-in-2.ensures

pub returns-in-3 : goal.returns-in-3
unfolding said kinds
returns-in-3 c = at_kind (plain_fields c.args.f) 3 c.in-3.is _ c.only-in-3.ensures

pub returns-in-4 : goal.returns-in-4
unfolding said kinds
returns-in-4 c = at_kind (plain_fields c.args.f) 4 c.in-4.is _ c.only-in-4.ensures

pub returns-in-5 : goal.returns-in-5
unfolding said kinds
returns-in-5 c = at_kind (plain_fields c.args.f) 5 c.in-5.is _ c.only-in-5.ensures

pub returns-in-6 : goal.returns-in-6
unfolding said kinds
returns-in-6 c = at_kind (plain_fields c.args.f) 6 c.in-6.is _ c.only-in-6.ensures

pub returns-after-viewed : goal.returns-after-viewed
unfolding said kinds
returns-after-viewed c =
    let n = tested (goal.at.returns-after-viewed c).After-view_of-view in
    at_kind (plain_fields c.args.f) 7 c.in-7.is _ (elim c.if-viewed.branch [ then-viewed w ↦ grind (arith, common_steps) | else-viewed w ↦ grind (arith, common_steps) ])

pub returns-after-viewed-2 : goal.returns-after-viewed-2
unfolding said kinds
returns-after-viewed-2 c =
    let n = tested (goal.at.returns-after-viewed-2 c).After-view_of-view in
    at_kind (plain_fields c.args.f) 8 c.in-8.is _ (elim c.if-viewed-2.branch [ then-viewed-2 w ↦ grind (arith, common_steps) | else-viewed-2 w ↦ grind (arith, common_steps) ])

pub returns-after-plain-2 : goal.returns-after-plain-2
unfolding said kinds
returns-after-plain-2 c =
    let n = tested (goal.at.returns-after-plain-2 c).After-view_of-view in
    at_kind (plain_fields c.args.f) 9 c.in-9.is _ (elim c.if-plain-2.branch [ then-plain-2 w ↦ grind (arith, common_steps) | else-plain-2 w ↦ grind (arith, common_steps) ])

pub returns-after-f-eq0-3 : goal.returns-after-f-eq0-3
unfolding said kinds
returns-after-f-eq0-3 c =
    at_kind (plain_fields c.args.f) 10 c.in-10.is _ (
    elim c.if-plain-3.branch [
      | then-plain-3 v ↦ elim c.if-f-eq0-3.branch [ then-f-eq0-3 w ↦ grind (arith, common_steps) | else-f-eq0-3 w ↦ grind (arith, common_steps) ]
      | else-plain-3 v ↦ elim c.if-f-eq0-3.branch [ then-f-eq0-3 w ↦ grind (arith, common_steps) | else-f-eq0-3 w ↦ grind (arith, common_steps) ]
    ]
    )

pub returns-after-plain-4 : goal.returns-after-plain-4
unfolding said kinds
returns-after-plain-4 c =
    let n = tested (goal.at.returns-after-plain-4 c).After-view_of-view in
    at_kind (plain_fields c.args.f) 11 c.in-11.is _ (elim c.if-plain-4.branch [ then-plain-4 w ↦ grind (arith, common_steps) | else-plain-4 w ↦ grind (arith, common_steps) ])

pub returns-after-no_id : goal.returns-after-no_id
unfolding said kinds
returns-after-no_id c =
    let n = tested (goal.at.returns-after-no_id c).After-view_of-view in
    at_kind (plain_fields c.args.f) 12 c.in-12.is _ (
    elim c.if-plain-5.branch [
      | then-plain-5 v ↦ elim c.if-no_id.branch [ then-no_id w ↦ grind (arith, common_steps) | else-no_id w ↦ grind (arith, common_steps) ]
      | else-plain-5 v ↦ elim c.if-no_id.branch [ then-no_id w ↦ grind (arith, common_steps) | else-no_id w ↦ grind (arith, common_steps) ]
    ]
    )

pub returns-after-no_id-2 : goal.returns-after-no_id-2
unfolding said kinds
returns-after-no_id-2 c =
    let n = tested (goal.at.returns-after-no_id-2 c).After-view_of-view in
    at_kind (plain_fields c.args.f) 13 c.in-13.is _ (
    elim c.if-plain-6.branch [
      | then-plain-6 v ↦ elim c.if-no_id-2.branch [ then-no_id-2 w ↦ grind (arith, common_steps) | else-no_id-2 w ↦ grind (arith, common_steps) ]
      | else-plain-6 v ↦ elim c.if-no_id-2.branch [ then-no_id-2 w ↦ grind (arith, common_steps) | else-no_id-2 w ↦ grind (arith, common_steps) ]
    ]
    )

pub returns-in_default : goal.returns-in_default
unfolding said
returns-in_default c =
    no_kind (plain_fields c.args.f) _ (search rules) (search rules) (search rules) (search rules) (search rules) (search rules) (search rules) (search rules) (search rules) (search rules) (search rules) (search rules) (search rules)
