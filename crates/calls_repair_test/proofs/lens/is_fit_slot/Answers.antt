-- The lengths that are tested are those of the slot, as they were read.
use mathlib.Core.Path.{ap, ◌∙◌}
use mathlib.Core.Bool.{not}
use Prim.Native.Nat.{◌-◌}
use lib.ListN.{get_or}
use mathlib.Core.List.{[]}
use Rattle.model.specs.State.{node_at}
use Rattle.model.specs.Kind.{kind_of}
use Rattle.calls_repair_test.proofs.LensLaws.{fit_lines, fit_crossed}
use Rattle.calls_repair_test.proofs.lens.is_fit_slot.Goals as goal

pub returns-else-not-too_many_lines : goal.returns-else-not-too_many_lines
returns-else-not-too_many_lines c =
    let args = c.args in
    let lengths_at_law = c.lengths_at in
    ap not c.if-not-too_many_lines.false ∙ fit_lines (kind_of (args.g.stride - 1) 0 args.ordered) (get_or (node_at args.g args.k.0 args.leaves.now).slots args.i []) _ _ lengths_at_law.ensures.0
    (c.too_many_lines.ensures 0) c.if-not-too_many_lines.false

pub returns-then-not-too_many_lines : goal.returns-then-not-too_many_lines
returns-then-not-too_many_lines c =
    let args = c.args in
    let lengths_at_law = c.lengths_at in
    let too-many-lines = c.too_many_lines in
    fit_crossed (kind_of (args.g.stride - 1) 0 args.ordered) (get_or (node_at args.g args.k.0 args.leaves.now).slots args.i []) _ _ _ lengths_at_law.ensures.0
    (too-many-lines.ensures 0) c.if-not-too_many_lines.true c.crossed.ensures
