-- Each test is one of those of the definition, in its order; good counts are what the others need.
use mathlib.Core.Path.{refl, ◌∙◌}
use mathlib.Core.Bool.{false}
use native.Mathlib.Omega.{arith}
use borrow.Author.Tests.{not-true, not-false}
use Rattle.model.specs.Kind.{kind_of}
use Rattle.calls_repair_test.specs.Queue.{kids_of}
use Rattle.calls_repair_test.proofs.LevelLaws.{never}
use Rattle.calls_repair_test.proofs.FitLaws.{counted, marks_of, inner_lens, leaf_lens, fit_1, fit_2, fit_3, fit_4, fit_5, totals_are, listed}
use Rattle.calls_repair_test.proofs.fit.is_fit.Goals as goal

pub returns-then-not-counts : goal.returns-then-not-counts
returns-then-not-counts c =
    let args = c.args in (
      λ views effect hs e. fit_1 views effect args.ordered args.head args.leaves.now args.inners.now hs _ e _ c.counts.ensures
          (c.if-not-counts.true),
      λ q. never false refl q,
    )

pub returns-then-not-every_inner : goal.returns-then-not-every_inner
returns-then-not-every_inner c =
    let args = c.args in
    let counts = c.counts in (
      λ views effect hs e. fit_2 views effect args.ordered args.head args.leaves.now args.inners.now hs _ e _ counts.ensures
          (c.if-not-counts.false) _ (c.every_inner.ensures (kind_of views effect args.ordered) e) (c.if-not-every_inner.true),
      λ q. never false refl q,
    )

pub returns-then-not-every_leaf : goal.returns-then-not-every_leaf
returns-then-not-every_leaf c =
    let args = c.args in
    let counts = c.counts in
    let if1 = c.if-not-counts in
    let every-inner = c.every_inner in (
      λ views effect hs e. fit_3 views effect args.ordered args.head args.leaves.now args.inners.now hs _ e _ counts.ensures if1.false _
          (every-inner.ensures (kind_of views effect args.ordered) e) (c.if-not-every_inner.false) _ (c.every_leaf.ensures views effect e)
          (c.if-not-every_leaf.true),
      λ q. never false refl q,
    )

pub reach-met-requires : goal.reach-met-requires
reach-met-requires c =
    let args = c.args in
    let counts = c.counts in
    let if1 = c.if-not-counts in
    let pre = c.requires in
    let if2 = c.if-not-every_inner in
    let every-inner = c.every_inner in
    let if3 = c.if-not-every_leaf in
    let every-leaf = c.every_leaf in
    let w = counted args.head args.g _ counts.ensures if1.false in (
      inner_lens pre.2.views 0 args.ordered args.head args.g pre.2.same args.inners.now args.head.inners pre.1 w.inners _ if2.false
          (every-inner.ensures (kind_of pre.2.views 0 args.ordered) pre.2.same),
      leaf_lens pre.2.views 0 args.ordered args.head args.g pre.2.same args.leaves.now args.head.leaves pre.0 w.leaves _ if3.false
          (every-leaf.ensures pre.2.views 0 pre.2.same),
      w.levels,
      omega (arith, w.inners, w.leaves, w.entries, pre.2.nodes, pre.2.limit, pre.2.order),
      marks_of args.head.inners 32768 _ (omega (arith, w.inners, pre.2.nodes)) (omega arith) pre.2.inner_marks,
      marks_of args.head.leaves 32768 _ (omega (arith, w.leaves, pre.2.nodes)) (omega arith) pre.2.leaf_marks,
      marks_of args.head.entries 65536 _ (omega (arith, w.entries, pre.2.limit)) (omega arith) pre.2.id_marks,
    )

pub returns-then-not-met : goal.returns-then-not-met
returns-then-not-met c =
    let args = c.args in
    let counts = c.counts in
    let if1 = c.if-not-counts in
    let every-inner = c.every_inner in
    let if2 = c.if-not-every_inner in
    let every-leaf = c.every_leaf in
    let if3 = c.if-not-every_leaf in
    let reach = c.reach-met in (
      λ views effect hs e. fit_4 views effect args.ordered args.head args.leaves.now args.inners.now hs _ e _ counts.ensures if1.false _
          (every-inner.ensures (kind_of views effect args.ordered) e) if2.false _ (every-leaf.ensures views effect e) if3.false _ reach.ensures.0
          (not-true _ c.if-not-met.true),
      λ q. never false refl q,
    )

pub totals-ok-requires : goal.totals-ok-requires
totals-ok-requires c =
    let args = c.args in
    let counts = c.counts in
    let if1 = c.if-not-counts in
    let pre = c.requires in
    let reach = c.reach-met in
    let w = counted args.head args.g _ counts.ensures if1.false in (
      pre.0,
      omega arith,
      (reach.ensures.1 (not-false _ c.if-not-met.false)).long,
      omega (arith, w.inners, w.leaves, pre.2.nodes),
      listed
          (kids_of args.g args.inners.now) args.head.root.0 args.head.levels args.head.inners args.head.leaves _ args.g.nodes _
          (reach.ensures.1 (not-false _ c.if-not-met.false)) w.leaves,
    )

pub returns : goal.returns
returns c =
    let args = c.args in
    let counts = c.counts in
    let if1 = c.if-not-counts in
    let every-inner = c.every_inner in
    let if2 = c.if-not-every_inner in
    let every-leaf = c.every_leaf in
    let if3 = c.if-not-every_leaf in
    let reach = c.reach-met in (
      λ views effect hs e. fit_5 views effect args.ordered args.head args.leaves.now args.inners.now hs _ e _ counts.ensures if1.false _
          (every-inner.ensures (kind_of views effect args.ordered) e) if2.false _ (every-leaf.ensures views effect e) if3.false _ reach.ensures.0
          (not-false _ c.if-not-met.false) _ (c.totals-ok.ensures ∙ totals_are views effect args.ordered args.head args.leaves.now args.inners.now hs _ e _ _ _ _
          (reach.ensures.1 (not-false _ c.if-not-met.false))),
      λ q. reach.ensures.1 (not-false _ c.if-not-met.false),
    )
