-- `calls_print::walk_lines::entry_lines`: each turn writes the lines of a leaf and goes on to the next; it ends where nothing more is met.
use Rattle.std.specs.Prelude.{Ok}
use Rattle.std.proofs.Common.{sym, ap, ◌∙◌, subst, arith}
use Rattle.model_laws.specs.Handed.{handed_broken}
use Rattle.model_laws.specs.Met.{Within, first_within, next_within, met_none, met_nothing, met_broken, met_empty, met_over}
use Rattle.calls_print.proofs.WalkLaws.{leaf_in_law, start, onward, stopped, ended}
use Rattle.calls_print.proofs.walk_lines.entry_lines.Goals as goal
use Rattle.calls_print.proofs.walk_lines.entry_lines.Goals.{then-len-eq0-via-then-len-eq0, then-len-eq0-via-else-len-eq0+then-g-len}

pub loop-left-init : goal.loop-left-init
loop-left-init c =
    let args = c.args in
    let pre = c.requires in
    (subst (Within args.g) (sym c.first_down-leaf.ensures) (first_within _ _ _ _), start _ _ _ _ _ _ _ _ pre.4 _ c.first_down-leaf.ensures)

pub len_of-len-requires : goal.len_of-len-requires
len_of-len-requires c =
    let here = c.in_ok-leaf.was ∙ ap Ok c.in_ok-k.ensures.ok_part in
    let pre = c.requires in
    let the-loop = c.loop-left in
    (pre.0, leaf_in_law c.args.g _ _ the-loop.invariant.0 here)

pub returns-then-len-eq0 : goal.returns-then-len-eq0
returns-then-len-eq0 c =
    let here = c.in_ok-leaf.was ∙ ap Ok c.in_ok-k.ensures.ok_part in
    let the-loop = c.loop-left in
    stopped _ _ _ _ _ _ _ _ c.requires.4 _ _ _ the-loop.invariant.1
    (elim c.then-len-eq0.branch [
      | then-len-eq0-via-then-len-eq0 w ↦ rw here (met_empty _ _ _ _ _ _ c.len_of-len.ensures _ w.if-len-eq0.true)
      | then-len-eq0-via-else-len-eq0+then-g-len w ↦ rw here (met_over _ _ _ _ _ _ c.len_of-len.ensures _ w.if-g-len.true)
    ]) c.loop-left-test.true

pub returns-in_err-leaf : goal.returns-in_err-leaf
returns-in_err-leaf c =
    let s = stopped _ _ _ _ _ _ _ _ c.requires.4 _ _ _ c.loop-left.invariant.1 (met_broken _ _ _ _ _ 0 _ c.in_err-leaf.was) c.loop-left-test.true in
    (handed_broken _ _ c.from_residual.ensures.1 ∙ s.0, s.1)

pub returns-in_err-k : goal.returns-in_err-k
returns-in_err-k c =
    let none = c.in_ok-leaf.was ∙ ap Ok c.in_err-k.ensures.ok_part in
    let s = stopped _ _ _ _ _ _ _ _ c.requires.4 _ _ _ c.loop-left.invariant.1 (met_nothing _ _ _ _ _ 0 _ none) c.loop-left-test.true in
    (handed_broken _ _ c.from_residual-in_err-k.ensures.1 ∙ s.0, s.1)

pub leaf_lines-lines-requires : goal.leaf_lines-lines-requires
leaf_lines-lines-requires c =
    let here = c.in_ok-leaf.was ∙ ap Ok c.in_ok-k.ensures.ok_part in
    let pre = c.requires in
    let the-loop = c.loop-left in (
      pre.0,
      pre.2,
      leaf_in_law c.args.g _ _ the-loop.invariant.0 here,
      omega (arith, c.min-n.ensures, c.if-g-len.false),
      omega (arith, c.min-n.ensures, the-loop.invariant.1.place, the-loop.invariant.1.few, the-loop.invariant.1.long, pre.4),
    )

pub parent_of-parent-requires : goal.parent_of-parent-requires
parent_of-parent-requires c =
    let here = c.in_ok-leaf.was ∙ ap Ok c.in_ok-k.ensures.ok_part in
    let pre = c.requires in
    let the-loop = c.loop-left in
    (pre.0, leaf_in_law c.args.g _ _ the-loop.invariant.0 here)

pub at_of-place-requires : goal.at_of-place-requires
at_of-place-requires c =
    let here = c.in_ok-leaf.was ∙ ap Ok c.in_ok-k.ensures.ok_part in
    let pre = c.requires in
    let the-loop = c.loop-left in
    (pre.0, leaf_in_law c.args.g _ _ the-loop.invariant.0 here)

pub loop-left-preserved : goal.loop-left-preserved
loop-left-preserved c =
    let here = c.in_ok-leaf.was ∙ ap Ok c.in_ok-k.ensures.ok_part in
    let the-loop = c.loop-left in
    let leaf-lines = c.leaf_lines-lines in (
      subst (Within c.args.g) (sym c.next_up-leaf.ensures) (next_within _ _ _ _ _ _),
      onward _ _ _ _ _ _ _ _ c.requires.4 _ _ _ the-loop.invariant.1 _ here _ c.len_of-len.ensures c.if-len-eq0.false c.if-g-len.false _ c.min-n.ensures _ leaf-lines.ensures leaf-lines.auto.page
          _ _ c.parent_of-parent.ensures c.at_of-place.ensures _ c.next_up-leaf.ensures,
    )

pub returns : goal.returns
returns c =
    let pre = c.requires in
    ended _ _ _ _ _ _ _ _ pre.4 _ _ _ c.loop-left.invariant.1 (met_none _ _ _ _ _ _ _ c.loop-left-test.false) c.loop-left-test.false
