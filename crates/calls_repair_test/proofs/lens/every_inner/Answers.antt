-- Every inner node is asked for its own test.
use mathlib.Core.Path.{◌≡◌, refl, ◌∙◌}
use mathlib.Core.List.{[]}
use mathlib.Core.Bool.{◌&&◌}
use Prim.Native.Nat.{ℕ}
use lib.Dec.{leb}
use native.Mathlib.Omega.{arith}
use Rattle.std.proofs.Common.{rules}
use Rattle.std.proofs.lemmas.Iterator.{YieldsList-from_range}
use Rattle.std.proofs.lemmas.Iterator.Search.{all_from_yields_List}
use Rattle.model.specs.Kind.{stride}
use Rattle.model.specs.State.{state, node_at}
use Rattle.model.specs.Sound.{least_inner}
use Rattle.model.specs.Mend.{is_fit_inner}
use Rattle.calls_repair_test.proofs.LensLaws.{inner_by_law}
use Rattle.calls_repair_test.proofs.EveryLaws.{every_all}
use Rattle.calls_repair_test.proofs.lens.every_inner.Goals as goal

pub returns : goal.returns
returns c K e =
    let args = c.args in
    let test = is_fit_inner K (state args.head [] args.inners.now []) in
    all_from_yields_List test _ _ c.all.result c.all.ensures.ran (YieldsList-from_range 0 args.count args.count refl (omega arith)) (λ x b q k.
    let called : (q ≡ _) × ((least len : ℕ) × (len ≡ (node_at args.g x args.inners.now).len) × ((s : ℕ) → least ≡ least_inner s (state args.head [] [] []) x) × (b ≡ (leb least len && leb len args.head.fan))) = search rules in
    (called.0, inner_by_law K args.head args.inners.now _ _ _ _ _ e called.1.2 (called.1.3 (stride K)) called.1.4)) ∙ every_all test 0 args.count
