-- `tree_node::write::split_child`: the lengths of x are taken from slot i, and the node so changed is read again when x is put in.
use Rattle.std.proofs.Common.{◌≡◌, ℕ, ◌+◌, ◌≤◌, Bool, true, false, not, cond, ◌∙◌, arith}
use mir.Val.{bool_byte}
use Rattle.tree_node.specs.Shaped.{whole}
use Rattle.tree_node.proofs.WriteLaws.{lengths_first, split_taken}
use Rattle.tree_node.proofs.write.split_child.Goals as goal

-- the place where x is put
place : (i step : ℕ) (before : Bool) → step ≡ bool_byte (not before) → (step ≤ 1) × (i + step ≡ cond before i (i + 1))
place i step true e = (omega arith, omega arith)
place i step false e = (omega arith, omega arith)

pub insert-requires : goal.insert-requires
insert-requires c =
    let k = lengths_first _ _ _ _ _ _ c.take_lengths.ensures in
    let at = place c.args.i _ _ c.from.ensures in
    (c.requires.0, c.take_lengths.auto.node ∙ c.requires.1, omega (arith, k, at, c.requires.2), omega (arith, k, c.requires.3), c.requires.4)

pub returns : goal.returns
returns c =
    c.insert.ensures ∙ rw (place c.args.i _ _ c.from.ensures).1
    (split_taken c.args.g.stride c.args.g.fan c.args.before c.args.i c.args.x.now c.args.node.now _ (whole _ _ c.requires.0 c.requires.1) c.requires.4 c.requires.0.columns c.requires.0.narrow (omega (arith, c.requires.2, c.requires.3)) c.take_lengths.ensures)
