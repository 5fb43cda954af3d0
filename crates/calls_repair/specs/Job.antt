-- What the writer is handed: a tree whose trusted words are those of a sound one, and the queue that the test made. Assumes nothing.
use Rattle.std.specs.Prelude.{◌≡◌, List, ℕ, suc}
use Rattle.model.specs.Kind.{kind}
use Rattle.model.specs.State.{state, shape}
use Rattle.model.specs.Mend.{no_finger, mend}
use Rattle.model.specs.Repair.{changes, sizes_in}
use Rattle.model.specs.declared.head.Head.{Head}
use Rattle.model.specs.declared.shape.Shape.{Shape}
use Rattle.tree_node.specs.Shaped.{Shaped}
use Rattle.model_theory.specs.RepairTrusted.{TrustedCoherent, LongAreas}
use Rattle.calls_repair_test.specs.Queue.{kids_of}
use Rattle.calls_repair_test.specs.Reach.{QueueReached}

pub record Job (h : Head) (g : Shape) (last : ℕ) (order ls xs hs : List ℕ) : Type 0 where
  pub views : ℕ
  pub same : g ≡ shape (suc views) h.fan h.limit
  pub shaped : Shaped g
  pub fits : TrustedCoherent (suc views) (state h ls xs hs)
  pub areas : LongAreas (suc views) (state h ls xs hs)
  pub reached : QueueReached (kids_of g xs) h.root.0 h.levels h.inners h.leaves last order

-- good fan, limit and areas, by the shape that they give
pub record Open (h : Head) (g : Shape) (ls xs hs : List ℕ) : Type 0 where
  pub views : ℕ
  pub same : g ≡ shape (suc views) h.fan h.limit
  pub shaped : Shaped g
  pub sizes : sizes_in (kind views 0) (state h ls xs hs) ≡ 0

-- every word as the one tree has it, and how many differ from before
pub record JobDone (s : ℕ) (h : Head) (ls xs hs : List ℕ) (n : ℕ) (lb xb hb : List ℕ) : Type 0 where
  pub tree : state (no_finger h) lb xb hb ≡ mend s (state h ls xs hs)
  pub count : n ≡ changes (state h ls xs hs) (mend s (state h ls xs hs))
