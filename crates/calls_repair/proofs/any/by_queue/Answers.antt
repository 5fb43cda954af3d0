-- 21 where a test fails; else the tree is one that the writer may be handed, and what it leaves is the answer.
use borrow.Author.Tests.{not-true, not-false}
use Rattle.calls_repair.proofs.AnswerLaws.{not_fit, not_fair, is_mended, leaf_room, inner_room, job_of, job_done}
use Rattle.calls_repair.proofs.any.by_queue.Goals as goal
use Rattle.calls_repair.proofs.any.by_queue.Goals.{then-not-fit-via-then-not-fit, then-not-fit-via-else-not-fit+then-not-fair}

pub is_fit-fit-requires : goal.is_fit-fit-requires
is_fit-fit-requires c =
    let pre = c.requires in
    (record { shaped = pre.0.shaped; room = leaf_room pre.0 }, record { shaped = pre.0.shaped; room = inner_room pre.0 }, pre.1)

pub returns-then-not-fit : goal.returns-then-not-fit
returns-then-not-fit c =
    let args = c.args in
    let is-fit = c.is_fit-fit in
    λ effect w. elim c.then-not-fit.branch [
      | then-not-fit-via-then-not-fit v ↦ not_fit _ _ args.fair (is-fit.ensures.0 w.views effect args.homes.now w.same) (not-true _ v.if-not-fit.true)
      | then-not-fit-via-else-not-fit+then-not-fair v ↦ not_fair _ _ args.fair (is-fit.ensures.0 w.views effect args.homes.now w.same) (not-false _ v.if-not-fit.false) v.if-not-fair.true
    ]

pub mend-n-requires : goal.mend-n-requires
mend-n-requires c =
    let pre = c.requires in
    let args = c.args in
    let is-fit = c.is_fit-fit in
    let if1 = c.if-not-fit in
    let fit = not-false _ if1.false in
    job_of pre.0 args.ordered (is-fit.ensures.0 pre.0.views 0 args.homes.now pre.0.same) fit (is-fit.ensures.1 fit)

pub returns : goal.returns
returns c =
    let args = c.args in
    let is-fit = c.is_fit-fit in
    let if1 = c.if-not-fit in
    let if2 = c.if-not-fair in
    let mend = c.mend-n in
    let fit = not-false _ if1.false in
    λ effect w. is_mended _ _ args.fair (is-fit.ensures.0 w.views effect args.homes.now w.same) fit if2.false
    c.without_finger.ensures
    (job_done w args.ordered (is-fit.ensures.0 w.views 0 args.homes.now w.same) fit (is-fit.ensures.1 fit) mend.ensures.1)
