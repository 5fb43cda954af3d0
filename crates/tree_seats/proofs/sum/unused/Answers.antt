-- `tree_seats::sum::unused`: the shares beside the charges are the list that is summed, and each difference is below 2^32.
use Rattle.std.proofs.Common.{◌-◌, ◌^◌, ◌∙◌, arith, rules, tests}
use Rattle.std.proofs.lemmas.Iterator.{YieldsList-from_slice, YieldsList-from_map, YieldsList-from_zip}
use Rattle.std.proofs.lemmas.Iterator.Adapters.{fits_from_length, at_most_from_yields_List}
use Rattle.std.proofs.lemmas.Iterator.Consumers.{YieldsList-at, sum_by_from_yields_List}
use Rattle.model.specs.Lists.{part}
use Rattle.tree_seats.proofs.SumLaws.{eight_pairs, unused_sum}
use Rattle.tree_seats.proofs.sum.unused.Goals as goal

pub sum-requires-clause-fits : goal.sum-requires-clause-fits
unfolding part
sum-requires-clause-fits c =
    let shares = part 1 8 c.args.seats.now in
    let charges = part 9 8 c.args.seats.now in
    fits_from_length _ _ 8 (2 ^ 64) (at_most_from_yields_List (YieldsList-at c.map.ensures.source (YieldsList-from_zip (YieldsList-from_slice shares (cc)) (YieldsList-from_slice charges (cc)))) (omega (arith, eight_pairs c.args.seats.now c.requires))) c.map.ensures.closure (omega arith) (λ x r q k. search (rules, tests))

pub returns : goal.returns
unfolding part
returns c =
    let shares = part 1 8 c.args.seats.now in
    let charges = part 9 8 c.args.seats.now in
    let is = sum_by_from_yields_List (λ x. x.0 - x.1) _ c.map.result _ c.sum.ensures.ran (YieldsList-from_map _ (λ x. x.0 - x.1) (YieldsList-at c.map.ensures.source (YieldsList-from_zip (YieldsList-from_slice shares (cc)) (YieldsList-from_slice charges (cc)))) c.map.ensures.closure (λ x r q k. search (rules, tests))) in
    is ∙ unused_sum c.args.seats.now c.requires
