-- Every slot in use is asked for its own test.
use mathlib.Core.Path.{refl, ◌∙◌}
use native.Mathlib.Omega.{arith}
use Rattle.std.proofs.Common.{rules, tests}
use Rattle.std.proofs.lemmas.Iterator.{YieldsList-from_range}
use Rattle.std.proofs.lemmas.Iterator.Search.{all_from_yields_List}
use Rattle.calls_repair_test.proofs.LensLaws.{fits_at}
use Rattle.calls_repair_test.proofs.EveryLaws.{every_all}
use Rattle.calls_repair_test.proofs.lens.are_fit_slots.Goals as goal

pub returns : goal.returns
returns c =
    let args = c.args in
    let test = fits_at args.g args.ordered args.k.0 args.leaves.now in
    all_from_yields_List test _ _ c.all.result c.all.ensures.ran (YieldsList-from_range 0 args.len args.len refl (omega arith)) (λ x b q k. search (rules, tests)) ∙ every_all test 0 args.len
