-- `tree_node::read::find_effect`: the effect lengths passed are what the index lost, and each turn passes one slot.
use Rattle.std.specs.Prelude.{Some}
use Rattle.std.proofs.Common.{◌≡◌, ℕ, ◌+◌, ◌-◌, ◌*◌, ◌<◌, ◌≤◌, List, get_or, drop, sym, refl, ap, ◌∙◌, arith}
use Rattle.model.specs.Node.{slots_from, find_from}
use Rattle.model_laws.specs.Nodes.{used_slots}
use Rattle.model_laws.specs.Read.{find_here, find_on, find_none}
use Rattle.tree_node.proofs.read.find_effect.Goals as goal

-- a slot passed
module _ (s n e k q i rest a b : ℕ) (ws : List ℕ) (he : e + 1 < s) (hq : q ≡ 3 + k * s + 1) (hk : k < n) (hi : rest ≤ i) where
  passed : get_or ws (q + e) 0 ≤ rest
      → find_from e e k rest (a + (i - rest)) b (drop k (slots_from s n 3 ws)) ≡ find_from e e (k + 1) (rest - get_or ws (q + e) 0) (a + (i - (rest - get_or ws (q + e) 0))) (b + get_or ws q 0) (drop (k + 1) (slots_from s n 3 ws))
  passed h =
      find_on s n 3 e e k rest (a + (i - rest)) b q ws he he hq hk h
      ∙ ap (λ (x : ℕ). find_from e e (k + 1) (rest - get_or ws (q + e) 0) x (b + get_or ws q 0) (drop (k + 1) (slots_from s n 3 ws))) (omega arith)

  held : rest < get_or ws (q + e) 0 → find_from e e k rest (a + (i - rest)) b (drop k (slots_from s n 3 ws)) ≡ Some (k, rest, a + (i - rest), b)
  held h = find_here s n 3 e e k rest (a + (i - rest)) b q ws he he hq hk h

pub returns-then-rest-here : goal.returns-then-rest-here
returns-then-rest-here c =
    rw (used_slots _ _ _ c.requires.3, c.from.ensures)
    (sym (held _ _ _ _ _ c.args.index _ c.args.effects _ _ c.requires.2 refl c.loop-k-test.true c.loop-k.invariant.0 c.if-rest-here.true) ∙ c.loop-k.invariant.2)

pub loop-k-preserved : goal.loop-k-preserved
loop-k-preserved c = (
  omega arith,
  omega arith,
  rw c.from-sum.ensures (sym (passed _ _ _ _ _ c.args.index _ c.args.effects _ _ c.requires.2 refl c.loop-k-test.true c.loop-k.invariant.0 c.if-rest-here.false) ∙ c.loop-k.invariant.2),
)

pub returns : goal.returns
returns c = rw (used_slots _ _ _ c.requires.3) (sym (find_none _ _ _ _ _ _ _ _ _ _ c.loop-k-test.false) ∙ c.loop-k.invariant.2)
