-- `tree_node::read::find_prepare`: the prepare lengths passed are what the index lost, and each turn passes one slot.
use Rattle.std.specs.Prelude.{Some}
use Rattle.std.proofs.Common.{◌≡◌, ℕ, ◌+◌, ◌-◌, ◌*◌, ◌<◌, ◌≤◌, List, get_or, drop, sym, refl, ap, ◌∙◌, ap₂, arith}
use Rattle.model.specs.Node.{slots_from, find_from}
use Rattle.model_laws.specs.Nodes.{used_slots}
use Rattle.model_laws.specs.Read.{find_here, find_on, find_none}
use Rattle.tree_node.proofs.read.find_prepare.Goals as goal

-- a slot passed: here is its prepare length
module _ (s n e k q i rest a b : ℕ) (ws : List ℕ) (he : e + 1 < s) (hq : q ≡ 3 + k * s + 1) (hk : k < n) (hi : rest ≤ i) where
  first : get_or ws (q + 0) 0 ≡ get_or ws q 0
  first = ap (λ (j : ℕ). get_or ws j 0) (omega arith)

  passed : get_or ws q 0 ≤ rest
      → find_from 0 e k rest a (b + (i - rest)) (drop k (slots_from s n 3 ws)) ≡ find_from 0 e (k + 1) (rest - get_or ws q 0) (a + get_or ws (q + e) 0) (b + (i - (rest - get_or ws q 0))) (drop (k + 1) (slots_from s n 3 ws))
  passed h =
      find_on s n 3 0 e k rest a (b + (i - rest)) q ws (omega arith) he hq hk (omega (arith, first))
      ∙ ap₂ (λ (x y : ℕ). find_from 0 e (k + 1) (rest - x) (a + get_or ws (q + e) 0) y (drop (k + 1) (slots_from s n 3 ws))) first (omega arith)

  held : rest < get_or ws q 0 → find_from 0 e k rest a (b + (i - rest)) (drop k (slots_from s n 3 ws)) ≡ Some (k, rest, a, b + (i - rest))
  held h = find_here s n 3 0 e k rest a (b + (i - rest)) q ws (omega arith) he hq hk (omega (arith, first))

pub returns-then-rest-here : goal.returns-then-rest-here
returns-then-rest-here c =
    rw (used_slots _ _ _ c.requires.3, c.from.ensures)
    (sym (held _ _ _ _ _ c.args.index _ _ c.args.prepares _ c.requires.2 refl c.loop-k-test.true c.loop-k.invariant.0 c.if-rest-here.true) ∙ c.loop-k.invariant.2)

pub loop-k-preserved : goal.loop-k-preserved
loop-k-preserved c = (
  omega arith,
  omega arith,
  rw c.from-sum.ensures (sym (passed _ _ _ _ _ c.args.index _ _ c.args.prepares _ c.requires.2 refl c.loop-k-test.true c.loop-k.invariant.0 c.if-rest-here.false) ∙ c.loop-k.invariant.2),
)

pub returns : goal.returns
returns c = rw (used_slots _ _ _ c.requires.3) (sym (find_none _ _ _ _ _ _ _ _ _ _ c.loop-k-test.false) ∙ c.loop-k.invariant.2)
