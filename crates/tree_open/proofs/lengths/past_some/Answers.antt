-- `tree_open::lengths::past_some`: each sum that is tested is the root's total in that view, view by view.
use Rattle.std.proofs.Common.{ltb-true, sym, ◌∙◌, true≢false, arith, le-ltb}
use Rattle.tree_open.proofs.LengthLaws.{some_first, some_second, some_third, some_none}
use Rattle.tree_open.proofs.TotalLaws.{passing, sum_tested, sum_test, if_there}
use Rattle.tree_open.proofs.lengths.past_some.Goals.{then-past_in, else-past_in+then-stride-gt2, else-past_in+else-stride-gt2}
use Rattle.tree_open.proofs.lengths.past_some.Goals as goal

-- in one of the first two views
pub returns-then-past_in-2 : goal.returns-then-past_in-2
returns-then-past_in-2 c =
    let a = c.args in
    let shaped = c.requires.0.shaped in
    let t = c.totals_in-t.ensures in
    let yes = c.if-past_in-2.true in
    yes
    ∙ elim c.if-past_in.branch [
      | then-past_in w ↦
          some_first (passing a.g a.root.0 a.inners.now) a.old.now a.new.now a.g.stride shaped.columns shaped.narrow (sum_test _ _ _ _ _ _ t.first c.past_in.ensures w.if-past_in.true)
      | else-past_in+then-stride-gt2 w ↦
          some_second (passing a.g a.root.0 a.inners.now) a.old.now a.new.now a.g.stride shaped.columns shaped.narrow (sum_test _ _ _ _ _ _ t.first c.past_in.ensures w.if-past_in.false) w.if-stride-gt2.true
          (sum_test _ _ _ _ _ _ (if_there _ 2 _ _ w.if-stride-gt2.true t.second) w.past_in-then-stride-gt2.ensures (sym w.value-is ∙ yes))
      | else-past_in+else-stride-gt2 w ↦ absurd (omega (arith, w.if-stride-gt2.false, ltb-true _ _ (sym w.value-is ∙ yes)))
    ]

-- in none of them: the third says it, where a slot has it
pub returns-then-stride-gt3 : goal.returns-then-stride-gt3
returns-then-stride-gt3 c =
    let a = c.args in
    let shaped = c.requires.0.shaped in
    let t = c.totals_in-t.ensures in
    let no = c.if-past_in-2.false in
    let third = sum_tested _ _ _ _ _ (if_there _ 3 _ _ c.if-stride-gt3.true t.third) c.past_in-then-stride-gt3.ensures in
    elim c.if-past_in.branch [
      | then-past_in w ↦ absurd (true≢false (sym w.if-past_in.true ∙ sym w.value-is ∙ no))
      | else-past_in+then-stride-gt2 w ↦
          some_third (passing a.g a.root.0 a.inners.now) a.old.now a.new.now a.g.stride shaped.columns shaped.narrow (sum_test _ _ _ _ _ _ t.first c.past_in.ensures w.if-past_in.false)
          (λ h. sum_test _ _ _ _ _ _ (if_there _ 2 _ _ h t.second) w.past_in-then-stride-gt2.ensures (sym w.value-is ∙ no)) c.if-stride-gt3.true _ third
      | else-past_in+else-stride-gt2 w ↦
          some_third (passing a.g a.root.0 a.inners.now) a.old.now a.new.now a.g.stride shaped.columns shaped.narrow (sum_test _ _ _ _ _ _ t.first c.past_in.ensures w.if-past_in.false)
          (λ h. absurd (omega (arith, w.if-stride-gt2.false, h))) c.if-stride-gt3.true _ third
    ]

pub returns-else-stride-gt3 : goal.returns-else-stride-gt3
returns-else-stride-gt3 c =
    let a = c.args in
    let shaped = c.requires.0.shaped in
    let t = c.totals_in-t.ensures in
    let no = c.if-past_in-2.false in
    le-ltb _ _ c.if-stride-gt3.false
    ∙ elim c.if-past_in.branch [
      | then-past_in w ↦ absurd (true≢false (sym w.if-past_in.true ∙ sym w.value-is ∙ no))
      | else-past_in+then-stride-gt2 w ↦
          some_none (passing a.g a.root.0 a.inners.now) a.old.now a.new.now a.g.stride shaped.columns shaped.narrow (sum_test _ _ _ _ _ _ t.first c.past_in.ensures w.if-past_in.false)
          (λ h. sum_test _ _ _ _ _ _ (if_there _ 2 _ _ h t.second) w.past_in-then-stride-gt2.ensures (sym w.value-is ∙ no)) c.if-stride-gt3.false
      | else-past_in+else-stride-gt2 w ↦
          some_none (passing a.g a.root.0 a.inners.now) a.old.now a.new.now a.g.stride shaped.columns shaped.narrow (sum_test _ _ _ _ _ _ t.first c.past_in.ensures w.if-past_in.false)
          (λ h. absurd (omega (arith, w.if-stride-gt2.false, h))) c.if-stride-gt3.false
    ]
