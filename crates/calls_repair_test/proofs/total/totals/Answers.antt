-- Every view is asked for its total.
use mathlib.Core.Path.{refl, ◌∙◌}
use Prim.Native.Nat.{◌-◌}
use native.Mathlib.Omega.{arith}
use Rattle.std.proofs.Common.{rules, tests}
use Rattle.std.proofs.lemmas.Iterator.{YieldsList-from_range}
use Rattle.std.proofs.lemmas.Iterator.Search.{all_from_yields_List}
use Rattle.model.specs.Lists.{part}
use Rattle.calls_repair_test.specs.Total.{within}
use Rattle.calls_repair_test.proofs.EveryLaws.{every_all}
use Rattle.calls_repair_test.proofs.total.totals.Goals as goal

pub returns : goal.returns
returns c =
    let args = c.args in
    let views = args.g.stride - 1 in
    let test = within args.g args.leaves.now (part args.start (args.end - args.start) args.order.now) in
    all_from_yields_List test _ _ c.all.result c.all.ensures.ran (YieldsList-from_range 0 views views refl (omega arith)) (λ x b q k. search (rules, tests)) ∙ every_all test 0 views
