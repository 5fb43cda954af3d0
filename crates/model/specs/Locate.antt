-- The lookup and its finger (document 01, "Lookup"). v is the view searched, e the effect view. Assumes nothing.
use Rattle.model.specs.Numbered.{broken}
use Rattle.std.specs.Prelude.{cond, ◌&&◌, List, [], ℕ, zero, suc, ◌+◌, ◌-◌, ◌^◌, get_or, drop, ltb, leb, eqb, Ok, Err, Some, None, Option, Result}
use Rattle.model.specs.Kind.{prepare}
use Rattle.model.specs.Node.{Node, Found, child, used, length_in, find_from, wrap}
use Rattle.model.specs.State.{node_at}
use Rattle.model.specs.Climb.{leaf_no}
use Rattle.model.specs.declared.shape.Shape.{Shape}
use Rattle.model.specs.declared.head.Finger.{Finger}
use Rattle.model.specs.declared.number.LeafNo.{LeafNo}
use Rattle.model.specs.declared.way.Broken.{Broken}

-- where a search from the root ends: the leaf, the position left for it, and the effect and the prepare lengths before it; nowhere where
-- the root doesn't hold the position
abbrev pub Descent : Type 0
Descent = Result (Option (LeafNo × ℕ × ℕ × ℕ)) Broken

-- where a lookup ends: the finger at the slot found, and the offset into that slot
abbrev pub Search : Type 0
Search = Result (Option (Finger × ℕ)) Broken

abbrev pub finger : ℕ → ℕ → ℕ → ℕ → ℕ → ℕ → ℕ → ℕ → ℕ → Finger
finger view leaf start effect slot within within_effect prepare within_prepare =
    record { view = view; leaf = leaf; start = start; effect = effect; slot = slot; within = within; effect_within = within_effect; prepare = prepare; prepare_within = within_prepare }

-- the effect and the prepare position of the slot at which a finger stands
abbrev pub effect_at : Finger → ℕ
effect_at f = wrap (f.effect + f.effect_within)

abbrev pub prepare_at : Finger → ℕ
prepare_at f = wrap (f.prepare + f.prepare_within)

abbrev pub less : ℕ → ℕ → ℕ
less a b = wrap (a + (2 ^ 32 - b))

-- a slot of a leaf and what stands before it in the leaf
pub record Stand : Type 0 where
  pub slot : ℕ
  pub within : ℕ
  pub within_effect : ℕ
  pub within_prepare : ℕ

abbrev pub stand : ℕ → ℕ → ℕ → ℕ → Stand
stand j w f p = record { slot = j; within = w; within_effect = f; within_prepare = p }

-- on through the child found in node m, with the offset and the effect and prepare lengths before it
abbrev pub into : (ℕ → ℕ → ℕ → ℕ → Descent) → Descent → Node → Found → Descent
into go miss m (Some (j, offset, a, b)) = go (child (get_or m.slots j [])) offset a b
into go miss m None = miss

module _ (v e : ℕ) where
  -- back from a slot to the first that doesn't start past the index
  unfoldable pub back : List (List ℕ) → ℕ → ℕ → ℕ → ℕ → ℕ → Stand
  back slots index zero within within_effect within_prepare = stand zero within within_effect within_prepare
  back slots index (suc j) within within_effect within_prepare =
      let x = get_or slots j [] in
      cond (ltb index within) (back slots index j (less within (length_in v x)) (less within_effect (length_in e x)) (less within_prepare (length_in prepare x)))
      (stand (suc j) within within_effect within_prepare)

  -- the finger f moved to the slot found; index counts from its leaf's start
  abbrev pub moved_to : Finger → ℕ → Found → Search
  moved_to f index (Some (j, offset, within_effect, within_prepare)) =
      Ok (Some (finger f.view f.leaf f.start f.effect j (index - offset) (wrap within_effect) f.prepare (wrap within_prepare), offset))
  moved_to f index None = Ok None

  -- the finger serves from its own slot, back or on
  unfoldable pub walked : Finger → ℕ → List (List ℕ) → Search
  walked f index slots =
      let b = back slots index f.slot f.within f.effect_within f.prepare_within in
      cond (ltb index b.within) (Err broken) (moved_to f index (find_from v e b.slot (index - b.within) b.within_effect b.within_prepare (drop b.slot slots)))

  module _ (g : Shape) where
    -- for its own view and an index at or past its start; leaves is how many are in use
    unfoldable pub served : Finger → ℕ → ℕ → List ℕ → Search
    served f leaves index ls =
        let m = node_at g f.leaf ls in
        cond (eqb f.view v && leb f.start index)
        (cond (ltb f.leaf leaves && leb m.len g.fan && ltb f.slot m.len) (walked f (index - f.start) (used m)) (Err broken))
        (Ok None)

    abbrev pub served_by : Option Finger → ℕ → ℕ → List ℕ → Search
    served_by None leaves index ls = Ok None
    served_by (Some f) leaves index ls = served f leaves index ls

    -- down n levels from inner node k, before which a stands in effect and b in prepare; miss is what a node answers that doesn't hold the index
    unfoldable pub descend : Descent → ℕ → ℕ → ℕ → ℕ → ℕ → List ℕ → Descent
    descend miss zero k rest a b xs = Ok (Some (leaf_no k, rest, a, b))
    descend miss (suc n) k rest a b xs =
        let m = node_at g k xs in
        cond (ltb k g.nodes && leb m.len g.fan)
        (into (λ c r x y. descend (Err broken) n c r x y xs) miss m (find_from v e 0 rest a b (used m)))
        (Err broken)

    -- the finger that the search from the root sets
    abbrev pub set_in : ℕ → ℕ → ℕ → ℕ → ℕ → Found → Search
    set_in k index rest a b (Some (j, offset, within_effect, within_prepare)) =
        Ok (Some (finger v k (index - rest) (wrap a) j (rest - offset) (wrap within_effect) (wrap b) (wrap within_prepare), offset))
    set_in k index rest a b None = Err broken

    -- in a leaf in use; leaves is how many are
    abbrev pub leaf_of : ℕ → ℕ → List ℕ → Descent → Search
    leaf_of leaves index ls (Ok (Some (k, rest, a, b))) =
        let m = node_at g k.0 ls in
        cond (ltb k.0 leaves && leb m.len g.fan) (set_in k.0 index rest a b (find_from v e 0 rest 0 0 (used m))) (Err broken)
    leaf_of leaves index ls (Ok None) = Ok None
    leaf_of leaves index ls (Err _) = Err broken

    -- Nothing: the root doesn't hold the index, so it is at or past the total
    unfoldable pub from_root : ℕ → ℕ → ℕ → ℕ → List ℕ → List ℕ → Search
    from_root levels root leaves index ls xs = leaf_of leaves index ls (descend (Ok None) levels root index 0 0 xs)

-- `changing`: what a change at a slot of a leaf leaves of the finger
abbrev pub rewound : Finger → Finger
rewound f = finger f.view f.leaf f.start f.effect 0 0 0 f.prepare 0

abbrev pub changing : ℕ → ℕ → Option Finger → Option Finger
changing leaf slot None = None
changing leaf slot (Some f) = cond (eqb f.leaf leaf) (cond (ltb slot f.slot) (Some (rewound f)) (Some f)) None
