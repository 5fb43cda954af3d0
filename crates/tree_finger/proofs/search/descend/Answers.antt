-- `tree_finger::search::descend`: the descent from here on is the descent asked for, and with what was passed counts the same; each turn goes down
-- one level to the slot found.
use Rattle.model.specs.Numbered.{broken}
use Rattle.std.specs.Prelude.{Ok, Err, Some, None}
use Rattle.std.proofs.Common.{◌≡◌, ℕ, ◌+◌, ◌-◌, ◌*◌, ◌<◌, ◌≤◌, true, List, sym, ap, ◌∙◌, arith, le-ltb, lt-ltb}
use Rattle.model.specs.Node.{used}
use Rattle.model.specs.State.{node_at}
use Rattle.model.specs.Climb.{leaf_no}
use Rattle.model.specs.Locate.{Descent, descend}
use Rattle.model.specs.Examined.{slots_before, downward}
use Rattle.model.specs.declared.shape.Shape.{Shape}
use Rattle.model.specs.declared.number.LeafNo.{LeafNo}
use Rattle.model_laws.specs.Down.{sized, sized_in, descend_end, descend_broken, descend_miss, descend_on}
use Rattle.model_laws.specs.Find.{used_ranged}
use Rattle.model_laws.specs.Examined.{found_in, downward_on, downward_end}
use Rattle.tree_finger.specs.Went.{Went}
use Rattle.tree_finger.proofs.search.descend.Goals.{Else-not-sized}
use Rattle.tree_finger.proofs.search.descend.Goals as goal

broken_apart : (l : LeafNo) (r a b : ℕ) → ◌≡◌ {A = Descent} (Err broken) (Ok (Some (l, r, a, b))) → ⊥
broken_apart l r a b q = let z : ◌≡◌ {A = ℕ} 0 1 = cc in omega arith

nothing_apart : (l : LeafNo) (r a b : ℕ) → ◌≡◌ {A = Descent} (Ok None) (Ok (Some (l, r, a, b))) → ⊥
nothing_apart l r a b q = let z : ◌≡◌ {A = ℕ} 0 1 = cc in omega arith

-- an end without a leaf counts nothing
lost : (v e : ℕ) (g : Shape) (levels root index : ℕ) (xs : List ℕ) (d : Descent) → d ≡ descend v e g (Ok None) levels root index 0 0 xs → ((l : LeafNo) (r a b : ℕ) → d ≡ Ok (Some (l, r, a, b)) → ⊥) → Went v e g levels root index xs d 0
lost v e g levels root index xs d q never = record { is = q; few = omega arith; counts = λ l r a b z ls. absurd (never l r a b z) }

-- the end in a leaf k with the position x left
arrived : (v e : ℕ) (g : Shape) (levels root index : ℕ) (xs : List ℕ) (k x s p passed : ℕ) → Ok (Some (leaf_no k, x, s, p)) ≡ descend v e g (Ok None) levels root index 0 0 xs → passed ≤ levels * 32 → ((ls : List ℕ) → passed + levels + (slots_before v x (used (node_at g k ls)) + 1) ≡ downward v g ls xs levels root index) → Went v e g levels root index xs (Ok (Some (leaf_no k, x, s, p))) passed
arrived v e g levels root index xs k x s p passed q f h =
    record {
      is = q;
      few = f;
      counts = λ l r a b z ls.
          let e : ◌≡◌ {A = LeafNo × ℕ × ℕ × ℕ} (leaf_no k, x, s, p) (l, r, a, b) = cc in
          sym (h ls) ∙ ap (λ w. passed + levels + (slots_before v w.1 (used (node_at g w.0.0 ls)) + 1)) e;
    }

-- the node of a turn is in the area and says no more slots than it has
turn : (c : Else-not-sized) → sized c.args.g c.loop-level.node c.args.inners.now ≡ true
turn c = sym c.sized.ensures ∙ c.if-not-sized.false

pub returns-then-not-sized : goal.returns-then-not-sized
returns-then-not-sized c =
    let args = c.args in
    let the-loop = c.loop-level in
    lost _ _ args.g _ _ _ _ _
    (sym (descend_broken _ _ args.g _ _ _ _ _ _ _ (omega arith) (sym c.sized.ensures ∙ c.if-not-sized.true)) ∙ the-loop.invariant.2)
    (λ l r a b q. broken_apart l r a b q)

pub returns-then-level-eq0 : goal.returns-then-level-eq0
returns-then-level-eq0 c =
    let l = c.loop-level in
    lost _ _ c.args.g _ _ _ _ _
    (sym (descend_miss _ _ c.args.g _ _ _ _ _ _ _ (omega arith) (turn (goal.at.returns-then-level-eq0 c).Else-not-sized)
    (sym c.find_first_in.ensures.finds ∙ c.in_default.is)
    ∙ rw (le-ltb 0 l.level (omega (arith, c.if-level-eq0.true)))) ∙ l.invariant.2) (λ l r a b q. nothing_apart l r a b q)

pub returns-else-level-eq0 : goal.returns-else-level-eq0
returns-else-level-eq0 c =
    let l = c.loop-level in
    lost _ _ c.args.g _ _ _ _ _
    (sym (descend_miss _ _ c.args.g _ _ _ _ _ _ _ (omega arith) (turn (goal.at.returns-else-level-eq0 c).Else-not-sized)
    (sym c.find_first_in.ensures.finds ∙ c.in_default.is)
    ∙ rw (lt-ltb 0 l.level (omega (arith, c.if-level-eq0.false)))) ∙ l.invariant.2) (λ l r a b q. broken_apart l r a b q)

pub child_of-node-requires : goal.child_of-node-requires
child_of-node-requires c =
    let t = sized_in c.args.g _ _ (turn (goal.at.child_of-node-requires c).Else-not-sized) in (
      c.requires.0,
      t.0,
      omega (
        arith,
        (used_ranged c.args.g _ _ _ 0 _ _ _ _ t.1 (omega arith)).slot _ _ _ _ (sym c.find_first_in.ensures.finds ∙ c.in-Some.is),
        t.1,
      ),
    )

pub overflow_add-passed : goal.overflow_add-passed
overflow_add-passed c =
    let l = c.loop-level in
    let t = sized_in c.args.g _ _ (turn (goal.at.overflow_add-passed c).Else-not-sized) in
    omega (
      arith,
      t.1,
      c.requires.0.shaped,
      c.requires.3,
      l.invariant.3,
      found_in c.args.view c.args.effect c.args.g l.node l.rest l.effects l.prepares c.args.inners.now _ _ _ _ (sym c.find_first_in.ensures.finds ∙ c.in-Some.is),
    )

pub loop-level-preserved : goal.loop-level-preserved
loop-level-preserved c =
    let l = c.loop-level in
    let more : 0 < c.args.levels - l.level = omega arith in
    let one : c.args.levels - (l.level + 1) ≡ c.args.levels - l.level - 1 = omega arith in
    let t = sized_in c.args.g _ _ (turn (goal.at.loop-level-preserved c).Else-not-sized) in
    let found = sym c.find_first_in.ensures.finds ∙ c.in-Some.is in
    let few = c.find_first_in.ensures.few _ _ _ _ c.in-Some.is in (
      omega (arith, few.0),
      omega (arith, few.1),
      rw (c.child_of-node.ensures, lt-ltb 0 (l.level + 1) (omega arith), one)
          (sym (descend_on _ _ c.args.g _ _ _ _ _ _ _ _ _ _ _ more (turn (goal.at.loop-level-preserved c).Else-not-sized) found) ∙ l.invariant.2),
      omega (
        arith,
        t.1,
        c.requires.0.shaped,
        l.invariant.3,
        found_in c.args.view c.args.effect c.args.g l.node l.rest l.effects l.prepares c.args.inners.now _ _ _ _ found,
      ),
      λ ls. rw (c.child_of-node.ensures, one)
          (omega (
            arith,
            l.invariant.4 ls,
            downward_on c.args.view c.args.effect c.args.g l.node l.rest l.effects l.prepares c.args.inners.now _ _ _ _ found ls (c.args.levels - l.level) more,
          )),
    )

pub returns : goal.returns
returns c =
    let args = c.args in
    let l = c.loop-level in
    arrived _ _ args.g _ _ _ _ _ _ _ _ _ (sym (descend_end _ _ args.g _ _ _ _ _ _ _ (omega arith)) ∙ l.invariant.2) (omega (arith, l.invariant.3))
    (λ ls. omega (arith, l.invariant.4 ls, downward_end args.view args.g ls args.inners.now (args.levels - l.level) l.node l.rest (omega arith)))
