-- What the writer aims at in the leaves and homes of a tree: those of a sound tree that agrees with what is trusted. Assumes nothing.
use mathlib.Core.Path.{◌≡◌, refl, sym, ap, subst, ◌∙◌}
use mathlib.Core.List.{List, []}
use Prim.Native.Nat.{ℕ, suc, ◌+◌, ◌*◌, ◌<◌, ◌≤◌}
use native.Mathlib.Omega.{arith}
use lib.ListN.{length, get_or}
use lib.Seq.{get_or-take}
use Rattle.model.specs.Node.{child, used}
use Rattle.model.specs.State.{State, state}
use Rattle.model.specs.Sound.{CoherentAt, shape_in, leaf_in, leaves_reached, slots_in}
use Rattle.model.specs.Mend.{no_finger}
use Rattle.model.specs.Repair.{Agrees}
use Rattle.model.specs.declared.shape.Shape.{Shape}
use Rattle.model.specs.declared.head.Head.{Head}
use Rattle.model_laws.specs.Areas.{len_at}
use Rattle.model_laws.specs.AreaRead.{node_end, used_length}
use Rattle.tree_node.specs.Shaped.{Shaped}
use Rattle.calls_repair_write.specs.Toward.{Goal, Empty}
use Rattle.calls_repair_write.specs.Leaves.{id_in, len_of, LeavesGoal}
use Rattle.calls_repair_write.proofs.SlotLaws.{child_word}
use Rattle.model_theory.specs.WordNeat.{neat_of}
use Rattle.model_theory.specs.RepairLists.{all_in, in_flat, in_map, In}
use Rattle.model_theory.specs.RepairUnique.{leaf_level}
use Rattle.model_theory.specs.RepairSlots.{unused_words, in_at}

-- t is given, R aimed at
module _ (views : ℕ) (h : Head) (ls xs hs lm xm hm : List ℕ) where
  abbrev s : ℕ
  s = suc views

  abbrev t : State
  t = state h ls xs hs

  abbrev R : State
  R = state (no_finger h) lm xm hm

  abbrev g : Shape
  g = shape_in s t

  module _ (w : CoherentAt s R 0) (ag : Agrees s t R) (sh : Shaped g) (ll : length lm ≡ length ls) (lh : length hm ≡ length hs) where
    abbrev leaf_goal : Goal
    leaf_goal = record { leaves = lm; beside = hm }

    abbrev len : ℕ → ℕ
    len k = len_of g leaf_goal k

    len_is : (k : ℕ) → (leaf_in s R k).len ≡ len k
    len_is k = len_at g k lm refl

    most : (k : ℕ) → k < h.leaves → len k ≤ h.fan
    most k l = omega (arith, len_is k, (w.leaf_filled k l).high)

    row : (k i : ℕ) → k < h.leaves → i < len k → get_or (leaf_in s t k).slots i [] ≡ get_or (leaf_in s R k).slots i []
    row k i l q =
        sym (get_or-take (leaf_in s t k).len (leaf_in s t k).slots i [] (omega (arith, ag.leaf_len k l, len_is k)))
        ∙ ap (λ (z : List (List ℕ)). get_or z i []) (sym (ag.leaf_slots_law k l)) ∙ get_or-take (leaf_in s R k).len (leaf_in s R k).slots i [] (omega (arith, len_is k))

    id_is : (k i : ℕ) → k < h.leaves → i < len k → child (get_or (leaf_in s R k).slots i []) ≡ id_in g lm k i
    id_is k i l q = child_word g k i lm sh (omega (arith, most k l))

    id_same : (k i : ℕ) → k < h.leaves → i < len k → id_in g ls k i ≡ id_in g lm k i
    id_same k i l q = sym (child_word g k i ls sh (omega (arith, most k l))) ∙ ap child (row k i l q) ∙ id_is k i l q

    id_below : (k i : ℕ) → k < h.leaves → i < len k → id_in g lm k i < h.entries
    id_below k i l q =
        let x : List ℕ = get_or (leaf_in s R k).slots i [] in
        let e : get_or (used (leaf_in s R k)) i [] ≡ x = get_or-take (leaf_in s R k).len (leaf_in s R k).slots i [] (omega (arith, len_is k)) in
        let n : i < length (used (leaf_in s R k)) = omega (arith, used_length g k lm (w.leaf_filled k l).high, len_is k) in
        let a : In x (used (leaf_in s R k)) = subst (λ (y : List ℕ). In y (used (leaf_in s R k))) e (in_at (used (leaf_in s R k)) i n) in
        let b : In x (slots_in s R (leaves_reached s R)) = in_flat (λ j. used (leaf_in s R j)) (leaf_level s R 0 w k l) a in
        subst (λ (y : ℕ). y < h.entries) (id_is k i l q) (all_in (λ j. j < h.entries) (in_map child b) w.ids.below)

    leaf_end : (k : ℕ) → k < h.leaves → k * g.size + g.size ≤ length lm
    leaf_end k l = node_end g k (length lm) (omega (arith, w.leaf_count)) w.leaf_area

    pub leaves_goal : LeavesGoal g h.leaves leaf_goal ls hs
    leaves_goal = record {
      long = record { leaves = ll; beside = lh };
      lens = λ k l. sym (len_at g k ls refl) ∙ sym (ag.leaf_len k l) ∙ len_is k;
      most = most;
      id = id_same;
      below = λ k i l q. omega (arith, id_below k i l q, w.entry_count, w.home_area, lh);
      home = λ k i l q. ap (λ (y : ℕ). get_or hm y 0) (sym (id_is k i l q)) ∙ w.homes k i l (omega (arith, len_is k));
      empty = λ k l. subst (λ (n : ℕ). Empty g lm k n) (len_is k) (unused_words g k lm refl (leaf_end k l) ((neat_of s R 0 w).leaf_tidy k l));
    }
