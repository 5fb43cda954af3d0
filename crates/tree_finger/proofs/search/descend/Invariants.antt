-- `tree_finger::search::descend`: the descent from here on is the descent asked for, and with what was passed counts the same; each turn goes down
-- one level to the slot found.
use Rattle.model.specs.Numbered.{broken}
use Rattle.std.specs.Prelude.{Ok, Err, None}
use Rattle.std.proofs.Common.{◌≡◌, ℕ, ◌+◌, ◌-◌, ◌*◌, ◌≤◌, cond, ltb, List}
use Rattle.model.specs.Locate.{Descent, descend}
use Rattle.model.specs.Examined.{downward}
use Rattle.tree_finger.proofs.search.descend.Given as goal

-- what a node answers that doesn't hold the position: the root None, a lower one Broken
abbrev miss_at : ℕ → Descent
miss_at level = cond (ltb 0 level) (Err broken) (Ok None)

abbrev pub invariant-loop-level : goal.invariant-loop-level
invariant-loop-level l = (l.effects ≤ l.level * 137438953440) × (l.prepares ≤ l.level * 137438953440)
    × (descend l.view l.effect l.g (miss_at l.level) (l.levels - l.level) l.node l.rest l.effects l.prepares l.inners ≡ descend l.view l.effect l.g (Ok None) l.levels l.initial.node l.index 0 0 l.inners)
    × (l.passed ≤ l.level * 32)
    × ((ls : List ℕ) → l.passed + l.level + downward l.view l.g ls l.inners (l.levels - l.level) l.node l.rest ≡ downward l.view l.g ls l.inners l.levels l.initial.node l.index)
