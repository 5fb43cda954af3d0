-- `tree_open::lengths::too_much`: one test for each view that a slot has, in their order.
use Rattle.std.proofs.Common.{ℕ, Bool, ltb, refl, sym, ◌∙◌, arith, lt-ltb, le-ltb, ltb-true, ltb-false}
use Rattle.tree_open.proofs.LengthLaws.{some_first, some_second, some_third, some_none}
use Rattle.tree_open.proofs.lengths.too_much.Goals.{then-own-given, else-own-given+then-stride-gt2, else-own-given+else-stride-gt2}
use Rattle.tree_open.proofs.lengths.too_much.Goals as goal

abbrev more : ℕ → ℕ → ℕ → Bool
more v given own = ltb own given

-- in one of the first two views
pub returns-then-own-given-2 : goal.returns-then-own-given-2
returns-then-own-given-2 c =
    let a = c.args in
    let shaped = c.requires.0 in
    let yes = c.if-own-given-2.true in
    yes
    ∙ elim c.if-own-given.branch [
      | then-own-given w ↦ some_first more a.given.now a.own.now a.g.stride shaped.columns shaped.narrow (lt-ltb _ _ w.if-own-given.true)
      | else-own-given+then-stride-gt2 w ↦
          some_second more a.given.now a.own.now a.g.stride shaped.columns shaped.narrow (le-ltb _ _ w.if-own-given.false) w.if-stride-gt2.true (sym w.value-is ∙ yes)
      | else-own-given+else-stride-gt2 w ↦ absurd (omega (arith, w.if-stride-gt2.false, ltb-true _ _ (sym w.value-is ∙ yes)))
    ]

-- in none of them: the third says it, where a slot has it
pub returns-then-stride-gt3 : goal.returns-then-stride-gt3
returns-then-stride-gt3 c =
    let a = c.args in
    let shaped = c.requires.0 in
    let no = c.if-own-given-2.false in
    elim c.if-own-given.branch [
      | then-own-given w ↦ absurd (omega (arith, w.if-own-given.true, ltb-false _ _ (sym w.value-is ∙ no)))
      | else-own-given+then-stride-gt2 w ↦
          some_third more a.given.now a.own.now a.g.stride shaped.columns shaped.narrow (le-ltb _ _ w.if-own-given.false) (λ h. sym w.value-is ∙ no) c.if-stride-gt3.true _ refl
      | else-own-given+else-stride-gt2 w ↦
          some_third more a.given.now a.own.now a.g.stride shaped.columns shaped.narrow (le-ltb _ _ w.if-own-given.false) (λ h. absurd (omega (arith, w.if-stride-gt2.false, h))) c.if-stride-gt3.true _ refl
    ]

pub returns-else-stride-gt3 : goal.returns-else-stride-gt3
returns-else-stride-gt3 c =
    let a = c.args in
    let shaped = c.requires.0 in
    let no = c.if-own-given-2.false in
    le-ltb _ _ c.if-stride-gt3.false
    ∙ elim c.if-own-given.branch [
      | then-own-given w ↦ absurd (omega (arith, w.if-own-given.true, ltb-false _ _ (sym w.value-is ∙ no)))
      | else-own-given+then-stride-gt2 w ↦
          some_none more a.given.now a.own.now a.g.stride shaped.columns shaped.narrow (le-ltb _ _ w.if-own-given.false) (λ h. sym w.value-is ∙ no) c.if-stride-gt3.false
      | else-own-given+else-stride-gt2 w ↦
          some_none more a.given.now a.own.now a.g.stride shaped.columns shaped.narrow (le-ltb _ _ w.if-own-given.false) (λ h. absurd (omega (arith, w.if-stride-gt2.false, h))) c.if-stride-gt3.false
    ]
