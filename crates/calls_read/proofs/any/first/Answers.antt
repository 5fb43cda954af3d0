-- `calls_read::any::first`: down from the root by first slots to a leaf, and there slot 0.
use Rattle.std.proofs.Common.{refl, ap, sym, ◌∙◌}
use Rattle.std.specs.Prelude.{Ok, Err}
use Rattle.model.specs.Numbered.{refusal_number}
use Rattle.model.specs.declared.refusal.Refusal.{Refusal}
use Rattle.model.specs.Kind.{kind}
use Rattle.model_laws.specs.Handed.{handed, none_refused}
use Rattle.tree_open.proofs.ReadyLaws.{ready, inner_area}
use Rattle.calls_read.proofs.OrderLaws.{first_refused, first_good}
use Rattle.calls_read.proofs.any.first.Goals as goal

pub first_down-requires : goal.first_down-requires
first_down-requires c = inner_area _ _ (ready (kind c.args.views 0) c.requires _ _ _ (c.in_ok-g.ensures 0) refl)

pub returns-in_err-g : goal.returns-in_err-g
returns-in_err-g c effect = handed _ _ c.from_residual.ensures.1 ∙ first_refused (kind c.args.views effect) _ _ (c.in_err-g.ensures effect)

pub returns-in_err-first_down : goal.returns-in_err-first_down
returns-in_err-first_down c effect =
    handed _ _ c.from_residual-in_err-first_down.ensures.1
    ∙ first_good (kind c.args.views effect) _ _ (c.in_ok-g.ensures effect) _ c.in_err-first_down.ensures

pub returns-in_err-leaf : goal.returns-in_err-leaf
returns-in_err-leaf c effect =
    let n = none_refused _ _ _ c.in_err-leaf.ensures.value c.in_err-leaf.ensures.ok_part in
    handed _ _ c.from_residual-in_err-leaf.ensures.1 ∙ ap (λ (r : Refusal). Err (refusal_number r)) n
    ∙ first_good (kind c.args.views effect) _ _ (c.in_ok-g.ensures effect) _ (sym (ap Ok c.in_err-leaf.ensures.ok_part) ∙ c.in_ok-first_down.ensures)

pub returns : goal.returns
returns c effect = first_good (kind c.args.views effect) _ _ (c.in_ok-g.ensures effect) _ (sym (ap Ok c.in_ok-leaf.ensures.ok_part) ∙ c.in_ok-first_down.ensures)
