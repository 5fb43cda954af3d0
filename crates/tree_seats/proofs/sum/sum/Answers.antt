-- `tree_seats::sum::sum`: the eight words from one on are the list that is summed, and each is below 2^32.
use Rattle.std.proofs.Common.{◌≡◌, ◌+◌, ◌-◌, ◌∙◌, arith, rules, tests}
use Rattle.std.proofs.lemmas.Iterator.{YieldsList-from_slice, YieldsList-from_map}
use Rattle.std.proofs.lemmas.Iterator.Consumers.{fits_by_from_yields_list, sum_by_from_yields_List}
use Rattle.model.specs.Lists.{part}
use Rattle.tree_seats.proofs.SumLaws.{words_sum, words_below}
use Rattle.tree_seats.proofs.sum.sum.Goals as goal

pub sum-requires-clause-fits : goal.sum-requires-clause-fits
unfolding part
sum-requires-clause-fits c =
    let a = c.args in
    let eight : a.from + 8 - a.from ≡ 8 = omega arith in
    let low = words_below a.words.now a.from c.requires 4294967295 (λ k. let z = c.type_inv.words k in omega arith) in
    fits_by_from_yields_list (λ x. x) _ c.map.result _ (YieldsList-from_map _ (λ x. x) (YieldsList-from_slice (part a.from 8 a.words.now) (rw (← eight) (cc))) c.map.ensures.closure (λ x r q k. search (rules, tests))) (omega (arith, low))

pub returns : goal.returns
unfolding part
returns c =
    let a = c.args in
    let eight : a.from + 8 - a.from ≡ 8 = omega arith in
    let low = words_below a.words.now a.from c.requires 4294967295 (λ k. let z = c.type_inv.words k in omega arith) in
    let is = sum_by_from_yields_List (λ x. x) _ c.map.result _ c.sum.ensures.ran (YieldsList-from_map _ (λ x. x) (YieldsList-from_slice (part a.from 8 a.words.now) (rw (← eight) (cc))) c.map.ensures.closure (λ x r q k. search (rules, tests))) in
    (is ∙ words_sum a.words.now a.from c.requires, omega (arith, is, low))
