-- Every leaf is asked for its own test.
use mathlib.Core.Path.{◌≡◌, refl, ◌∙◌}
use mathlib.Core.List.{[]}
use Prim.Native.Nat.{ℕ}
use native.Mathlib.Omega.{arith}
use Rattle.std.proofs.Common.{rules}
use Rattle.std.proofs.lemmas.Iterator.{YieldsList-from_range}
use Rattle.std.proofs.lemmas.Iterator.Search.{all_from_yields_List}
use Rattle.model.specs.Kind.{kind_of}
use Rattle.model.specs.Refuse.{shape_of}
use Rattle.model.specs.State.{state}
use Rattle.model.specs.Mend.{is_fit_leaf}
use Rattle.calls_repair_test.proofs.EveryLaws.{every_all}
use Rattle.calls_repair_test.proofs.lens.every_leaf.Goals as goal

pub returns : goal.returns
returns c views effect e =
    let args = c.args in
    let test = is_fit_leaf (kind_of views effect args.ordered) (state args.head args.leaves.now [] []) in
    all_from_yields_List test _ _ c.all.result c.all.ensures.ran (YieldsList-from_range 0 args.count args.count refl (omega arith)) (λ x b q k.
    let called : (q ≡ _) × ((views effect : ℕ) → args.g ≡ shape_of (kind_of views effect args.ordered) args.head → b ≡ is_fit_leaf (kind_of views effect args.ordered) (state args.head args.leaves.now [] []) x) = search rules in
    (called.0, called.1 views effect e)) ∙ every_all test 0 args.count
