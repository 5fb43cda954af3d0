-- `tree_open::lengths::hollow_part`: a length is above zero where it is more than nothing, and one is left where the entry has more than is moved.
use Rattle.std.proofs.Common.{◌-◌, not, ap, ◌∙◌, arith}
use Rattle.tree_open.proofs.LengthLaws.{hollow_moved, hollow_left}
use Rattle.tree_open.proofs.lengths.hollow_part.Goals as goal

pub returns-then-not-too_much : goal.returns-then-not-too_much
returns-then-not-too_much c =
    let args = c.args in
    let pre = c.requires in
    ap not c.if-not-too_much.true ∙ hollow_moved (args.g.stride - 1) (omega (arith, pre.0.narrow)) args.given.now args.own.now pre.1 _ c.too_much.ensures c.if-not-too_much.true

pub returns-else-not-too_much : goal.returns-else-not-too_much
returns-else-not-too_much c =
    let args = c.args in
    let pre = c.requires in
    hollow_left (args.g.stride - 1) (omega (arith, pre.0.narrow)) args.given.now args.own.now pre.1 _ c.too_much.ensures c.if-not-too_much.false _ c.too_much-else-not-too_much.ensures
