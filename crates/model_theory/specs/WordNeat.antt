-- What a state's words keep beside the soundness of its abstract tree: areas long enough, every node in use tidy.
use Rattle.model.specs.declared.head.Finger.{Finger}
use Rattle.std.specs.Prelude.{◌≡◌, refl, Bool, true, false, cond, ℕ, suc, ◌*◌, ◌/◌, ◌≤◌, ◌<◌, ltb, length, Some, None, Option}
use Rattle.std.proofs.Common.{sym, ◌∙◌, div-le_self, arith}
use Rattle.std.proofs.lemmas.List.{length-map}
use Rattle.model.specs.Node.{Node, used, half}
use Rattle.model.specs.State.{State, nodes_for}
use Rattle.model.specs.Sound.{shape_in, leaf_in, inner_in, CoherentAt, FingerRight}
use Rattle.model_laws.specs.Areas.{formed_at}
use Rattle.model_theory.specs.WordFits.{fits}
use Rattle.model_theory.specs.WordTidy.{Tidy, tidy_filled, len_used}
use Rattle.model_theory.specs.LiftTree.{slot_of, slots_of}

-- the finger's view is one of the stride's
abbrev pub Viewed : ℕ → Option Finger → Type 0
Viewed s None = Unit {0}
Viewed s (Some f) = suc f.view < s

pub record Neat (s : ℕ) (t : State) : Type 0 where
  pub leaf_area : (shape_in s t).nodes * (shape_in s t).size ≤ length t.leaves
  pub inner_area : (shape_in s t).nodes * (shape_in s t).size ≤ length t.inners
  pub home_area : t.head.limit ≤ length t.homes
  pub leaf_count : t.head.leaves ≤ (shape_in s t).nodes
  pub inner_count : t.head.inners ≤ (shape_in s t).nodes
  pub leaf_tidy : (k : ℕ) → k < t.head.leaves → Tidy s t.head.fan (leaf_in s t k)
  pub inner_tidy : (k : ℕ) → k < t.head.inners → Tidy s t.head.fan (inner_in s t k)
  pub view : Viewed s t.head.finger

-- the nodes of an area are few
pub nodes_most : (fan limit : ℕ) → 1 ≤ limit → nodes_for fan limit ≤ limit
nodes_most fan limit h = go (ltb (limit / half fan) 1)
  where
    go : (b : Bool) → cond b 1 (limit / half fan) ≤ limit
    go true = h
    go false = div-le_self limit (half fan)

pub size_is : (s fan : ℕ) (n : Node) → Tidy s fan n → length (slots_of n) ≡ n.len
size_is s fan n t = length-map (used n) slot_of ∙ sym (len_used s fan n t)

pub neat_of : (s : ℕ) (t : State) (e : ℕ) → CoherentAt s t e → Neat s t
neat_of s t e w = record {
  leaf_area = w.leaf_area;
  inner_area = w.inner_area;
  home_area = w.home_area;
  leaf_count = w.leaf_count;
  inner_count = w.inner_count;
  leaf_tidy = λ k lt. tidy_filled s t.head.fan (leaf_in s t k) (formed_at (shape_in s t) k t.leaves refl (fits (shape_in s t) k t.leaves (let z = w.leaf_count in omega arith) w.leaf_area))
      (w.leaf_filled k lt).high (w.leaf_filled k lt).unused;
  inner_tidy = λ k lt. tidy_filled s t.head.fan (inner_in s t k) (formed_at (shape_in s t) k t.inners refl (fits (shape_in s t) k t.inners (let z = w.inner_count in omega arith) w.inner_area))
      (w.inner_filled k lt).high (w.inner_filled k lt).unused;
  view = seen t.head.finger w.finger;
}
  where
    seen : (f : Option Finger) → FingerRight s t e f → Viewed s f
    seen None r = tt
    seen (Some f) r = r.view
