-- The root is noted first, and the levels below it behind it.
use mathlib.Core.Path.{refl, sym, ap, subst, ◌∙◌}
use mathlib.Core.Bool.{Bool, false}
use Prim.Native.Nat.{ℕ, ◌<◌}
use borrow.Author.Tests.{not-true, not-false}
use Rattle.calls_repair_test.specs.Queue.{queue, kids_of}
use Rattle.calls_repair_test.proofs.QueueLaws.{noted_sizes, still}
use Rattle.calls_repair_test.proofs.LevelLaws.{never, first_noted, first_stop, first_on, first_last}
use Rattle.calls_repair_test.proofs.queue.inner_levels.Goals as goal

pub returns-then-not-first : goal.returns-then-not-first
returns-then-not-first c =
    let args = c.args in
    let pre = c.requires in
    let see = c.see-first in (
      ap (λ (ok : Bool). queue ok see.result.count see.new.order see.new.marks) (sym (not-true _ c.if-not-first.true))
          ∙ first_stop (kids_of args.g args.inners.now) _ _ _ _ _ _ _ _ _ pre.2 see.ensures (not-true _ c.if-not-first.true),
      λ q. never false refl q,
    )

pub below-requires : goal.below-requires
below-requires c =
    let pre = c.requires in
    let see = c.see-first in
    let args = c.args in
    let f = first_noted _ _ _ _ _ _ _ _ pre.1.order (not-false _ c.if-not-first.false) see.ensures in let s = noted_sizes _ _ _ _ _ _ _ _ _ _ see.ensures in
    (pre.0, still pre.1 s.0 s.1, pre.2, f.some, subst (λ (x : ℕ). x < args.n) (sym f.front) f.below)

pub returns : goal.returns
returns c =
    let pre = c.requires in
    let if1 = c.if-not-first in
    let see = c.see-first in
    let args = c.args in
    let below = c.below in
    let f = first_noted _ _ _ _ _ _ _ _ pre.1.order (not-false _ if1.false) see.ensures in (
      first_on (kids_of args.g args.inners.now) _ _ _ _ _ _ _ _ _ pre.2 see.ensures (not-false _ if1.false) f.count f.front _ below.ensures.0,
      λ q. first_last (kids_of args.g args.inners.now) _ _ _ _ _ _ _ _ _ pre.2 see.ensures f.front _ _ _ (below.ensures.1 q),
    )
