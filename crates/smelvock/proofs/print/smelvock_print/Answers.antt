-- `smelvock::print::smelvock_print`: 10 where the head is bad, else the call's answer in words, and the buffer as the call leaves it.
use mathlib.Core.Path.{sym, ap, ◌∙◌}
use Rattle.model.specs.Kind.{base}
use Rattle.model.specs.State.{state}
use Rattle.model.specs.Print as calls
use Rattle.model.specs.declared.head.Head.{Head}
use Rattle.smelvock_marshal.proofs.HeadLaws.{good_head}
use Rattle.smelvock.specs.Prints as flat
use Rattle.smelvock.proofs.FlatLaws.{print_refused, print_good}
use Rattle.smelvock.proofs.print.smelvock_print.Goals as goal

pub returns-then-bad_head : goal.returns-then-bad_head
unfolding flat.print
returns-then-bad_head c = print_refused _ _ _ _ (sym c.bad_head.ensures ∙ c.if-bad_head.true) c.refused_number.ensures

pub head_from-requires : goal.head_from-requires
head_from-requires c = good_head _ (sym c.bad_head.ensures ∙ c.if-bad_head.false)

pub returns : goal.returns
unfolding flat.print
returns c =
    let a = c.args in
    print_good _ _ _ _ _ _ (sym c.bad_head.ensures ∙ c.if-bad_head.false) c.number_of.ensures
    (c.print-a.ensures
    ∙ ap (λ (h : Head). calls.print base (state h a.leaves.now a.inners.now a.homes.now) a.page.now) c.head_from.ensures.0)
