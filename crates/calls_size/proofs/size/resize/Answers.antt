-- `calls_size::size::resize`: the call of a tree with three lengths an entry, positions answered in the second.
use Rattle.std.proofs.Common.{ℕ, List, refl, ap, ◌∙◌, arith}
use Rattle.model.specs.Kind.{base}
use Rattle.model.specs.State.{State, state}
use Rattle.calls_size.specs.Size as size
use Rattle.calls_size.proofs.SizeLaws.{listed}
use Rattle.calls_size.proofs.size.resize.Goals.{Start}
use Rattle.calls_size.proofs.size.resize.Goals as goal

-- the tree as it was lent
abbrev entry : Start → State
entry a = state a.args.head a.args.leaves.now a.args.inners.now a.args.homes.now

pub resize-requires : goal.resize-requires
resize-requires c = (omega arith, omega arith, omega arith, refl)

pub returns : goal.returns
returns c =
    let p = c.of in
    let e = c.of-2 in
    let n = c.of-3 in
    c.resize.ensures ∙ ap (λ (l : List ℕ). size.resize base c.args.summed (entry (goal.at.returns c).Start) c.args.at l) (listed c.args.lengths _ _ _ p.ensures e.ensures n.ensures)
