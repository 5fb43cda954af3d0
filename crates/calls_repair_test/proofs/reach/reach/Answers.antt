-- Inner nodes, leaves and ids are noted one after the other; where one list fails the answer is no.
use mathlib.Core.Path.{refl}
use mathlib.Core.Bool.{false}
use native.Mathlib.Omega.{arith}
use Rattle.calls_repair_test.specs.Queue.{kids_of}
use Rattle.calls_repair_test.proofs.LevelLaws.{never}
use Rattle.calls_repair_test.proofs.ReachLaws.{stop_1, room_2, sorted_2, long_2, parents_2, stop_2, room_3, long_3, parents_3, end_3, reached_3}
use Rattle.calls_repair_test.proofs.reach.reach.Goals as goal

pub returns-then-not-is_full : goal.returns-then-not-is_full
returns-then-not-is_full c =
    let args = c.args in
    let pre = c.requires in
    let inner-levels = c.inner_levels-first in (
      stop_1 (kids_of args.g args.inners.now) (kids_of args.g args.leaves.now) args.root args.levels args.n args.m args.entries pre.2
          args.order.now args.upper.now args.lower.now args.named.now pre.4 pre.5 pre.6 pre.3 _ _ _ _ _ inner-levels.ensures.0
          inner-levels.ensures.1 _ c.is_full.ensures (c.if-not-is_full.true),
      λ q. never false refl q,
    )

pub level-second-requires : goal.level-second-requires
level-second-requires c =
    let pre = c.requires in
    let args = c.args in
    let inner-levels = c.inner_levels-first in
    let is-full = c.is_full in (
      pre.0.area,
      room_2 (kids_of args.g args.inners.now) (kids_of args.g args.leaves.now) args.root args.levels args.n args.m args.entries pre.2
          args.order.now args.upper.now args.lower.now args.named.now pre.4 pre.5 pre.6 pre.3 _ _ _ _ _ inner-levels.ensures.0
          inner-levels.ensures.1 _ is-full.ensures (c.if-not-is_full.false),
      sorted_2 (kids_of args.g args.inners.now)
          (kids_of args.g args.leaves.now) args.root args.levels args.n args.m args.entries pre.2 args.order.now args.upper.now args.lower.now
          args.named.now pre.4 pre.5 pre.6 pre.3 _ _ _ _ _ inner-levels.ensures.0 inner-levels.ensures.1 _ is-full.ensures
          (c.if-not-is_full.false),
      omega arith,
      long_2 (kids_of args.g args.inners.now) (kids_of args.g args.leaves.now) args.root args.levels
          args.n args.m args.entries pre.2 args.order.now args.upper.now args.lower.now args.named.now pre.4 pre.5 pre.6 pre.3 _ _ _ _ _
          inner-levels.ensures.0 inner-levels.ensures.1 _ is-full.ensures (c.if-not-is_full.false),
      parents_2 (kids_of args.g args.inners.now)
          (kids_of args.g args.leaves.now) args.root args.levels args.n args.m args.entries pre.2 args.order.now args.upper.now args.lower.now
          args.named.now pre.4 pre.5 pre.6 pre.3 _ _ _ _ _ inner-levels.ensures.0 inner-levels.ensures.1 _ is-full.ensures
          (c.if-not-is_full.false) _ _ pre.0,
    )

pub returns-then-not-is_full-2 : goal.returns-then-not-is_full-2
returns-then-not-is_full-2 c =
    let args = c.args in
    let pre = c.requires in
    let inner-levels = c.inner_levels-first in
    let is-full = c.is_full in
    let if1 = c.if-not-is_full in
    let level = c.level-second in (
      stop_2 (kids_of args.g args.inners.now) (kids_of args.g args.leaves.now) args.root args.levels args.n args.m args.entries pre.2
          args.order.now args.upper.now args.lower.now args.named.now pre.4 pre.5 pre.6 pre.3 _ _ _ _ _ inner-levels.ensures.0
          inner-levels.ensures.1 _ is-full.ensures if1.false _ _ _ _ level.ensures _ c.is_full-2.ensures (c.if-not-is_full-2.true),
      λ q. never false refl q,
    )

pub level-third-requires : goal.level-third-requires
level-third-requires c =
    let pre = c.requires in
    let args = c.args in
    let inner-levels = c.inner_levels-first in
    let is-full = c.is_full in
    let if1 = c.if-not-is_full in
    let level = c.level-second in
    let is-full2 = c.is_full-2 in (
      pre.1.area,
      room_3 (kids_of args.g args.inners.now) (kids_of args.g args.leaves.now) args.root args.levels args.n args.m args.entries pre.2
          args.order.now args.upper.now args.lower.now args.named.now pre.4 pre.5 pre.6 pre.3 _ _ _ _ _ inner-levels.ensures.0
          inner-levels.ensures.1 _ is-full.ensures if1.false _ _ _ _ level.ensures _ is-full2.ensures (c.if-not-is_full-2.false),
      omega arith,
      omega arith,
      long_3 (kids_of args.g args.inners.now) (kids_of args.g args.leaves.now) args.root args.levels args.n args.m args.entries
          pre.2 args.order.now args.upper.now args.lower.now args.named.now pre.4 pre.5 pre.6 pre.3 _ _ _ _ _ inner-levels.ensures.0
          inner-levels.ensures.1 _ is-full.ensures if1.false _ _ _ _ level.ensures _ is-full2.ensures (c.if-not-is_full-2.false),
      parents_3
          (kids_of args.g args.inners.now) (kids_of args.g args.leaves.now) args.root args.levels args.n args.m args.entries pre.2 args.order.now
          args.upper.now args.lower.now args.named.now pre.4 pre.5 pre.6 pre.3 _ _ _ _ _ inner-levels.ensures.0 inner-levels.ensures.1 _
          is-full.ensures if1.false _ _ _ _ level.ensures _ is-full2.ensures (c.if-not-is_full-2.false) _ _ pre.1,
    )

pub returns : goal.returns
returns c =
    let args = c.args in
    let pre = c.requires in
    let inner-levels = c.inner_levels-first in
    let is-full = c.is_full in
    let if1 = c.if-not-is_full in
    let level = c.level-second in
    let is-full2 = c.is_full-2 in
    let if2 = c.if-not-is_full-2 in
    let level2 = c.level-third in (
      end_3 (kids_of args.g args.inners.now) (kids_of args.g args.leaves.now) args.root args.levels args.n args.m args.entries pre.2 args.order.now
          args.upper.now args.lower.now args.named.now pre.4 pre.5 pre.6 pre.3 _ _ _ _ _ inner-levels.ensures.0 inner-levels.ensures.1 _
          is-full.ensures if1.false _ _ _ _ level.ensures _ is-full2.ensures if2.false _ _ _ _ level2.ensures _ c.is_full-ok.ensures,
      λ q. reached_3 (kids_of args.g args.inners.now) (kids_of args.g args.leaves.now) args.root args.levels args.n args.m args.entries pre.2
          args.order.now args.upper.now args.lower.now args.named.now pre.4 pre.5 pre.6 pre.3 _ _ _ _ _ inner-levels.ensures.0
          inner-levels.ensures.1 _ is-full.ensures if1.false _ _ _ _ level.ensures _ is-full2.ensures if2.false _ _ _ _ level2.ensures _
          c.is_full-ok.ensures q,
    )
