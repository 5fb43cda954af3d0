-- `calls_audit::any::slots_used`: fewer than 2^32 words are summed; the sum is the definition's.
use mathlib.Core.Path.{◌∙◌}
use Prim.Native.Nat.{ℕ, ◌^◌}
use native.Mathlib.Omega.{arith}
use Rattle.std.specs.List.{range_with_len}
use Rattle.std.proofs.Common.{rules, tests}
use Rattle.std.proofs.lemmas.Iterator.{YieldsList-from_range, YieldsList-from_map}
use Rattle.std.proofs.lemmas.Iterator.Adapters.{fits_from_length, at_most_from_yields_List}
use Rattle.std.proofs.lemmas.Iterator.Consumers.{sum_by_from_yields_List}
use Rattle.std.proofs.lemmas.List.FromFn.{length-range_with_len}
use Rattle.model.specs.State.{node_at}
use Rattle.calls_audit.proofs.TreeLaws.{sum_range}
use Rattle.calls_audit.proofs.any.slots_used.Goals as goal

pub sum-requires-clause-fits : goal.sum-requires-clause-fits
sum-requires-clause-fits c =
    let count = c.args.count in
    fits_from_length _ _ 4294967295 (2 ^ 64) (at_most_from_yields_List (YieldsList-from_range 0 count count c.map.ensures.source (omega arith)) (omega (arith, length-range_with_len 0 count)))
    c.map.ensures.closure (omega arith) (λ x r q k. search (rules, tests))

pub returns : goal.returns
returns c =
    let args = c.args in
    let len : ℕ → ℕ = λ k. (node_at args.g k args.leaves.now).len in
    sum_by_from_yields_List len (range_with_len 0 args.count) c.map.result c.sum.result c.sum.ensures.ran
    (YieldsList-from_map _ len (YieldsList-from_range 0 args.count args.count c.map.ensures.source (omega arith)) c.map.ensures.closure (λ x r q k. search (rules, tests))) ∙ sum_range len 0 args.count
