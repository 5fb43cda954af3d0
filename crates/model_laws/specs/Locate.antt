-- The lookup: in the leaf that the search from the root comes to, and from the slot at which the finger stands. Assumes nothing.
use Rattle.model.specs.Numbered.{broken}
use Rattle.std.specs.Prelude.{◌≡◌, Bool, true, false, cond, List, [], get_or, drop, ltb, Ok, Err, Some, None}
use Rattle.std.proofs.Math.Path.{refl}
use Rattle.std.proofs.Common.{◌∙◌, get_or-take}
use Prim.Native.Nat.{ℕ, zero, suc, ◌-◌, ◌<◌, ◌≤◌}
use native.Mathlib.Omega.{arith}
use borrow.Author.Tests.{lt-ltb, le-ltb, lt-leb, le-leb, eq-eqb, ne_eqb}
use Rattle.model.specs.Kind.{prepare}
use Rattle.model.specs.Node.{Node, used, length_in, wrap, find_from}
use Rattle.model.specs.State.{node_at}
use Rattle.model.specs.Climb.{leaf_no}
use Rattle.model.specs.Locate.{less, stand, back, finger, walked, served, leaf_of, rewound, changing}
use Rattle.model.specs.declared.shape.Shape.{Shape}
use Rattle.model.specs.declared.head.Finger.{Finger}

-- a slot in use is that slot
pub used_at : (n : Node) (j : ℕ) → j < n.len → get_or (used n) j [] ≡ get_or n.slots j []
used_at n j h = get_or-take n.len n.slots j [] h

-- in the leaf: one that is not in use, one that says more slots than it has, no slot, or a slot that holds the index
module _ (v e : ℕ) (g : Shape) (leaves k index rest a b : ℕ) (ls : List ℕ) where
  pub leaf_out : leaves ≤ k → leaf_of v e g leaves index ls (Ok (Some (leaf_no k, rest, a, b))) ≡ Err broken
  leaf_out o = rw (le-ltb k leaves o)

  pub leaf_full : k < leaves → g.fan < (node_at g k ls).len → leaf_of v e g leaves index ls (Ok (Some (leaf_no k, rest, a, b))) ≡ Err broken
  leaf_full o n = rw (lt-ltb k leaves o, lt-leb (node_at g k ls).len g.fan n)

  pub leaf_miss : k < leaves → (node_at g k ls).len ≤ g.fan → find_from v e 0 rest 0 0 (used (node_at g k ls)) ≡ None → leaf_of v e g leaves index ls (Ok (Some (leaf_no k, rest, a, b))) ≡ Err broken
  leaf_miss o n f = rw (lt-ltb k leaves o, le-leb (node_at g k ls).len g.fan n, f)

  pub leaf_found : (j o t u : ℕ) → k < leaves → (node_at g k ls).len ≤ g.fan → find_from v e 0 rest 0 0 (used (node_at g k ls)) ≡ Some (j, o, t, u)
      → leaf_of v e g leaves index ls (Ok (Some (leaf_no k, rest, a, b))) ≡ Ok (Some (finger v k (index - rest) (wrap a) j (rest - o) (wrap t) (wrap b) (wrap u), o))
  leaf_found j o t u l n f = rw (lt-ltb k leaves l, le-leb (node_at g k ls).len g.fan n, f)

-- back from a slot: at the first slot, at a slot that doesn't start past the index, or one slot further back
module _ (v e : ℕ) (slots : List (List ℕ)) (index w f p : ℕ) where
  pub back_first : (j : ℕ) → j ≤ 0 → back v e slots index j w f p ≡ stand j w f p
  unfolding back
  back_first zero h = refl
  back_first (suc j) h = absurd (omega arith)

  pub back_here : (j : ℕ) → w ≤ index → back v e slots index j w f p ≡ stand j w f p
  unfolding back
  back_here zero h = refl
  back_here (suc j) h = rw (le-ltb index w h)

  pub back_on : (j : ℕ) → 0 < j → index < w
      → back v e slots index j w f p ≡ back v e slots index (j - 1) (less w (length_in v (get_or slots (j - 1) []))) (less f (length_in e (get_or slots (j - 1) []))) (less p (length_in prepare (get_or slots (j - 1) [])))
  unfolding back
  back_on zero h l = absurd (omega arith)
  back_on (suc j) h l =
      let one : suc j - 1 ≡ j = omega arith in
      rw (lt-ltb index w l, one)

-- the same over the slots in use of a node, with a, b and c the lengths of the slot before
pub back_turn : (v e : ℕ) (n : Node) (index w f p : ℕ) (j a b c w' f' p' : ℕ) → 0 < j → j ≤ n.len → index < w → a ≡ length_in v (get_or n.slots (j - 1) []) → b ≡ length_in e (get_or n.slots (j - 1) [])
    → c ≡ length_in prepare (get_or n.slots (j - 1) []) → w' ≡ less w a → f' ≡ less f b → p' ≡ less p c → back v e (used n) index j w f p ≡ back v e (used n) index (j - 1) w' f' p'
back_turn v e n index w f p j a b c w' f' p' h hj l ea eb ec ew ef ep = back_on v e (used n) index w f p j h l ∙ rw (used_at n (j - 1) (omega arith), ew, ef, ep, ea, eb, ec)

pub back_slot : (v e : ℕ) (slots : List (List ℕ)) (index j w f p : ℕ) → (back v e slots index j w f p).slot ≤ j
unfolding back
back_slot v e slots index zero w f p = omega arith
back_slot v e slots index (suc j) w f p =
    go (ltb index w) (back_slot v e slots index j (less w (length_in v (get_or slots j []))) (less f (length_in e (get_or slots j []))) (less p (length_in prepare (get_or slots j []))))
  where
    go : (b : Bool) → (back v e slots index j (less w (length_in v (get_or slots j []))) (less f (length_in e (get_or slots j []))) (less p (length_in prepare (get_or slots j [])))).slot ≤ j
        → (cond b (back v e slots index j (less w (length_in v (get_or slots j []))) (less f (length_in e (get_or slots j []))) (less p (length_in prepare (get_or slots j [])))) (stand (suc j) w f p)).slot ≤ suc j
    go true h = omega arith
    go false h = omega arith

-- from the slot b, w, x, y to which the finger goes back: it can't go back far enough, the leaf doesn't hold the index, or a slot does
module _ (v e : ℕ) (f : Finger) (index : ℕ) (slots : List (List ℕ)) (b w x y : ℕ) (h : stand b w x y ≡ back v e slots index f.slot f.within f.effect_within f.prepare_within) where
  pub walked_broken : index < w → walked v e f index slots ≡ Err broken
  unfolding walked
  walked_broken l = rw (← h, lt-ltb index w l)

  pub walked_miss : w ≤ index → find_from v e b (index - w) x y (drop b slots) ≡ None → walked v e f index slots ≡ Ok None
  unfolding walked
  walked_miss l q = rw (← h, le-ltb index w l, q)

  pub walked_found : (j o t u : ℕ) → w ≤ index → find_from v e b (index - w) x y (drop b slots) ≡ Some (j, o, t, u)
      → walked v e f index slots ≡ Ok (Some (finger f.view f.leaf f.start f.effect j (index - o) (wrap t) f.prepare (wrap u), o))
  unfolding walked
  walked_found j o t u l q = rw (← h, le-ltb index w l, q)

-- whether the finger serves: another view, an index before its leaf, a finger that points outside, or from its own slot
module _ (v e : ℕ) (g : Shape) (f : Finger) (leaves index : ℕ) (ls : List ℕ) where
  pub served_other : (f.view ≡ v → ⊥) → served v e g f leaves index ls ≡ Ok None
  unfolding served
  served_other d = rw (ne_eqb f.view v d)

  pub served_early : f.view ≡ v → index < f.start → served v e g f leaves index ls ≡ Ok None
  unfolding served
  served_early d l = rw (eq-eqb f.view v d, lt-leb f.start index l)

  module _ (d : f.view ≡ v) (l : f.start ≤ index) where
    pub served_out : leaves ≤ f.leaf → served v e g f leaves index ls ≡ Err broken
    unfolding served
    served_out o = rw (eq-eqb f.view v d, le-leb f.start index l, le-ltb f.leaf leaves o)

    pub served_full : f.leaf < leaves → g.fan < (node_at g f.leaf ls).len → served v e g f leaves index ls ≡ Err broken
    unfolding served
    served_full o n = rw (eq-eqb f.view v d, le-leb f.start index l, lt-ltb f.leaf leaves o, lt-leb (node_at g f.leaf ls).len g.fan n)

    pub served_past : f.leaf < leaves → (node_at g f.leaf ls).len ≤ g.fan → (node_at g f.leaf ls).len ≤ f.slot → served v e g f leaves index ls ≡ Err broken
    unfolding served
    served_past o n p =
        rw (eq-eqb f.view v d, le-leb f.start index l, lt-ltb f.leaf leaves o, le-leb (node_at g f.leaf ls).len g.fan n, le-ltb f.slot (node_at g f.leaf ls).len p)

    pub served_on : f.leaf < leaves → (node_at g f.leaf ls).len ≤ g.fan → f.slot < (node_at g f.leaf ls).len
        → served v e g f leaves index ls ≡ walked v e f (index - f.start) (used (node_at g f.leaf ls))
    unfolding served
    served_on o n p =
        rw (eq-eqb f.view v d, le-leb f.start index l, lt-ltb f.leaf leaves o, le-leb (node_at g f.leaf ls).len g.fan n, lt-ltb f.slot (node_at g f.leaf ls).len p)

-- what a change leaves of the finger: none in another leaf, the leaf's first slot for an earlier slot, else the finger as it is
module _ (leaf slot : ℕ) (f : Finger) where
  pub changing_gone : (f.leaf ≡ leaf → ⊥) → changing leaf slot (Some f) ≡ None
  changing_gone d = rw (ne_eqb f.leaf leaf d)

  pub changing_back : f.leaf ≡ leaf → slot < f.slot → changing leaf slot (Some f) ≡ Some (rewound f)
  changing_back d l = rw (eq-eqb f.leaf leaf d, lt-ltb slot f.slot l)

  pub changing_kept : f.leaf ≡ leaf → f.slot ≤ slot → changing leaf slot (Some f) ≡ Some f
  changing_kept d l = rw (eq-eqb f.leaf leaf d, le-ltb slot f.slot l)
