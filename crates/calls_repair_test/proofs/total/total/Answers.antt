-- Each number in that part of the queue is a leaf in use, and gives that leaf's total, of which 131,072 fit.
use mathlib.Core.Path.{◌∙◌}
use Prim.Native.Nat.{ℕ, ◌-◌, ◌<◌, ◌^◌}
use native.Mathlib.Omega.{arith}
use Rattle.std.proofs.Common.{rules, tests}
use Rattle.std.proofs.lemmas.Iterator.{YieldsList-from_slice, YieldsList-from_map}
use Rattle.std.proofs.lemmas.Iterator.Adapters.{serves_from_places, fits_from_length, at_most_from_yields_List}
use Rattle.std.proofs.lemmas.Iterator.Consumers.{sum_by_from_yields_List}
use Rattle.model.specs.Lists.{part}
use Rattle.model.specs.Node.{total, used}
use Rattle.model.specs.State.{node_at}
use Rattle.model_laws.specs.Words.{length_part}
use Rattle.calls_repair_test.proofs.TotalLaws.{leaf_at, total_by}
use Rattle.calls_repair_test.proofs.total.total.Goals as goal

pub sum-requires-clause-can : goal.sum-requires-clause-can
unfolding part
sum-requires-clause-can c =
    let args = c.args in
    let pre = c.requires in (
      tt,
      serves_from_places (YieldsList-from_slice (part args.start (args.end - args.start) args.order.now) cc) (λ x q k. search (rules, tests))
          (λ x k a b. let leaf : x.now < args.g.nodes = leaf_at args.g.nodes args.start args.end x.now k args.order.now pre.2 pre.3 pre.5 a b in search rules),
    )

pub sum-requires-clause-fits : goal.sum-requires-clause-fits
unfolding part
sum-requires-clause-fits c =
    let args = c.args in
    let pre = c.requires in
    fits_from_length _ _ 131072 (2 ^ 64)
    (at_most_from_yields_List (YieldsList-from_slice (part args.start (args.end - args.start) args.order.now) cc) (omega (arith, length_part args.start (args.end - args.start) args.order.now (omega (arith, pre.2, pre.3)), pre.4)))
    c.map.ensures.closure (omega arith) (λ x r q k. search rules)

pub returns : goal.returns
unfolding part
returns c =
    let args = c.args in
    let leaves = part args.start (args.end - args.start) args.order.now in
    let each : ℕ → ℕ = λ k. total args.view (used (node_at args.g k args.leaves.now)) in
    sum_by_from_yields_List each leaves c.map.result c.sum.result c.sum.ensures.ran
    (YieldsList-from_map _ each (YieldsList-from_slice leaves cc) c.map.ensures.closure (λ x r q k. search (rules, tests))) ∙ total_by args.g args.leaves.now args.view leaves
