-- `smelvock_planning::read::smelvock_plan_audit`: 10 where the head is bad, else the verdict in words.
use mathlib.Core.Path.{sym, ap, ◌∙◌}
use Rattle.model.specs.Kind.{planning}
use Rattle.model.specs.State.{state}
use Rattle.model.specs.Answer.{verdict_answer}
use Rattle.model.specs.Audit as model
use Rattle.model.specs.declared.head.Head.{Head}
use Rattle.smelvock_marshal.specs.Flat.{number_of}
use Rattle.smelvock_marshal.proofs.HeadLaws.{good_head}
use Rattle.smelvock_marshal.proofs.LentLaws.{answer_refused, answer_good}
use Rattle.smelvock_planning.specs.Calls as flat
use Rattle.smelvock_planning.proofs.read.smelvock_plan_audit.Goals as goal

pub returns-then-bad_head : goal.returns-then-bad_head
unfolding flat.audit
returns-then-bad_head c = answer_refused number_of _ _ _ (sym c.bad_head.ensures ∙ c.if-bad_head.true) c.refused_number.ensures

pub head_from-requires : goal.head_from-requires
head_from-requires c = good_head _ (sym c.bad_head.ensures ∙ c.if-bad_head.false)

pub returns : goal.returns
unfolding flat.audit
returns c =
    let a = c.args in
    let bad-head = c.bad_head in
    let if1 = c.if-bad_head in
    answer_good number_of _ _ _ _ (sym bad-head.ensures ∙ if1.false) c.number_of_verdict.ensures
    (ap verdict_answer (c.audit-a.ensures ∙ ap (λ (h : Head). model.audit planning (state h a.leaves.now a.inners.now a.homes.now)) c.head_from.ensures.0))
