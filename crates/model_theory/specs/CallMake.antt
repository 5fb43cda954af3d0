-- Make and reset leave a sound state that stands for the row of one entry.
use Rattle.model.specs.Numbered.{Numbered}
use Rattle.std.specs.Prelude.{◌≡◌, Bool, true, false, cond, ◌||◌, ltb, length, Ok, Err}
use Rattle.std.proofs.Math.Path.{refl, ap}
use Rattle.std.proofs.Common.{◌∙◌, not-suc-le-zero, add-one, arith, length-set, ltb-false}
use mathlib.Core.List.{List, [], ◌∷◌, ◌++◌, map}
use Prim.Native.Nat.{ℕ, suc, ◌*◌, ◌/◌, ◌≤◌, ◌<◌}
use Rattle.std.proofs.Math.Seq.{get_or-set_same}
use Rattle.model.specs.Kind.{stride, too_many_lines, crossed}
use Rattle.model.specs.declared.shape.Kind.{Kind}
use Rattle.model.specs.Lists.{All, Cause, refusal}
use Rattle.model.specs.Node.{Node, none, half, new_node}
use Rattle.model.specs.State.{State, next_stamp, nodes_for, shape, node_at, put_node}
use Rattle.model.specs.Row as row
use Rattle.model.specs.Row.{Entry, done, unless, made_row, row_move}
use Rattle.model.specs.Refuse.{bad_size, too_short, crossed_bounds}
use Rattle.model.specs.Sound.{Coherent}
use Rattle.model.specs.Calls as calls
use Rattle.model.specs.Calls.{begun, area_causes, make_causes}
use Rattle.model.specs.ById.{told, tree_move}
use Rattle.model.specs.Answer.{outcome_answer}
use Rattle.model.specs.Promise.{Words}
use Rattle.model.specs.declared.shape.Shape.{Shape}
use Rattle.model_laws.specs.Areas.{node_same}
use Rattle.model_theory.specs.WordFits.{fits}
use Rattle.model_tree.specs.Begin.{Fresh, fresh_body, fresh_row}
use Rattle.model_theory.specs.WordTidy.{tidy_made, tidy_formed}
use Rattle.model_theory.specs.LiftTree.{slot_of, slots_of, tree_of}
use Rattle.model_theory.specs.WordNeat.{Neat}
use Rattle.model_theory.specs.LiftSoundBack.{sound_up}
use Rattle.model_theory.specs.WordPut.{Keeps, put_next}
use Rattle.model_theory.specs.LiftEntries.{firsts, entry_from, entry_is}
use Rattle.model_theory.specs.RowViews.{each_small}
use Rattle.model_theory.specs.CallOpen.{passed, stopped, few_lines, level_bounds, crossed_bounds_law, good_areas}
use Rattle.model_theory.specs.CallSimulates.{Simulates, Mirrors, row_of, row_passed, row_stopped, own, entries_are}

-- what the causes of a make leave
pub record Sizes (K : Kind) (fan limit : ℕ) (ls xs hs : List ℕ) : Type 0 where
  pub fan_low : 4 ≤ fan
  pub fan_high : fan ≤ 32
  pub limit_low : 1 ≤ limit
  pub limit_high : limit ≤ 65536
  pub leaf_area : (shape (stride K) fan limit).nodes * (shape (stride K) fan limit).size ≤ length ls
  pub inner_area : (shape (stride K) fan limit).nodes * (shape (stride K) fan limit).size ≤ length xs
  pub home_area : limit ≤ length hs

or_left : (a b : Bool) → (a || b) ≡ false → a ≡ false
or_left true b e = e
or_left false b e = refl

or_right : (a b : Bool) → (a || b) ≡ false → b ≡ false
or_right true b e = absurd (let z : ◌≡◌ {A = ℕ} 0 1 = cc in omega arith)
or_right false b e = e

pub sizes_of : (K : Kind) (fan limit : ℕ) (ls xs hs : List ℕ) → refusal (area_causes K fan limit ls xs hs) ≡ 0 → Sizes K fan limit ls xs hs
unfolding refusal
sizes_of K fan limit ls xs hs e =
    let a : Bool = ltb fan 4 || ltb 32 fan || ltb limit 1 || ltb 65536 limit in
    let g : Shape = shape (stride K) fan limit in
    let b : Bool = ltb (length ls) (g.nodes * g.size) || ltb (length xs) (g.nodes * g.size) || ltb (length hs) limit in
    let r = none_of a b e in
    record {
      fan_low = ltb-false fan 4 (or_left (ltb fan 4) (ltb 32 fan) (or_left (ltb fan 4 || ltb 32 fan) (ltb limit 1) (or_left (ltb fan 4 || ltb 32 fan || ltb limit 1) (ltb 65536 limit) r.0)));
      fan_high = ltb-false 32 fan (or_right (ltb fan 4) (ltb 32 fan) (or_left (ltb fan 4 || ltb 32 fan) (ltb limit 1) (or_left (ltb fan 4 || ltb 32 fan || ltb limit 1) (ltb 65536 limit) r.0)));
      limit_low = ltb-false limit 1 (or_right (ltb fan 4 || ltb 32 fan) (ltb limit 1) (or_left (ltb fan 4 || ltb 32 fan || ltb limit 1) (ltb 65536 limit) r.0));
      limit_high = ltb-false 65536 limit (or_right (ltb fan 4 || ltb 32 fan || ltb limit 1) (ltb 65536 limit) r.0);
      leaf_area = ltb-false (length ls) (g.nodes * g.size) (or_left (ltb (length ls) (g.nodes * g.size)) (ltb (length xs) (g.nodes * g.size)) (or_left (ltb (length ls) (g.nodes * g.size) || ltb (length xs) (g.nodes * g.size)) (ltb (length hs) limit) r.1));
      inner_area = ltb-false (length xs) (g.nodes * g.size) (or_right (ltb (length ls) (g.nodes * g.size)) (ltb (length xs) (g.nodes * g.size)) (or_left (ltb (length ls) (g.nodes * g.size) || ltb (length xs) (g.nodes * g.size)) (ltb (length hs) limit) r.1));
      home_area = ltb-false (length hs) limit (or_right (ltb (length ls) (g.nodes * g.size) || ltb (length xs) (g.nodes * g.size)) (ltb (length hs) limit) r.1);
    }
  where
    none_of : (a b : Bool) → ◌≡◌ {A = ℕ} (cond a 1 (cond b 2 0)) 0 → (a ≡ false) × (b ≡ false)
    none_of true b e = absurd (omega arith)
    none_of false true e = absurd (omega arith)
    none_of false false e = (refl, refl)

-- and the last of them
pub level_made : (K : Kind) (fan limit : ℕ) (l ls xs hs : List ℕ) → refusal (area_causes K fan limit ls xs hs ++ crossed_bounds K l ∷ []) ≡ 0 → (refusal (area_causes K fan limit ls xs hs) ≡ 0) × (crossed K l ≡ false)
unfolding refusal
level_made K fan limit l ls xs hs e = go (bad_size fan limit).applies (too_short (shape (stride K) fan limit) limit ls xs hs).applies (crossed K l) e
  where
    go : (a b c : Bool) → ◌≡◌ {A = ℕ} (cond a 1 (cond b 2 (cond c 20 0))) 0 → (◌≡◌ {A = ℕ} (cond a 1 (cond b 2 0)) 0) × (c ≡ false)
    go true b c e = absurd (omega arith)
    go false true c e = absurd (omega arith)
    go false false true e = absurd (omega arith)
    go false false false e = (refl, refl)

pub nodes_least : (fan limit : ℕ) → 1 ≤ nodes_for fan limit
nodes_least fan limit = go (ltb (limit / half fan) 1) refl
  where
    go : (b : Bool) → ltb (limit / half fan) 1 ≡ b → 1 ≤ cond b 1 (limit / half fan)
    go true e = omega arith
    go false e = ltb-false (limit / half fan) 1 e

module _ (K : Kind) (fan limit stamp : ℕ) (l : List ℕ) (ls xs hs : List ℕ) (z : Sizes K fan limit ls xs hs) (small : Words K l) where
  g : Shape
  g = shape (stride K) fan limit

  x : List ℕ
  x = 0 ∷ l

  -- a node of one slot at the area's start
  first_keeps : (p : ℕ) (area : List ℕ) → g.nodes * g.size ≤ length area → Keeps g 1 (put_node g 0 (new_node (stride K) fan p (x ∷ [])) area)
  unfolding g x All
  first_keeps p area h = put_next g refl (omega arith) 0 (new_node (stride K) fan p (x ∷ [])) area (nodes_least fan limit) (tidy_made (stride K) fan p 0 (x ∷ []) (omega (arith, z.fan_low)) (ap suc small.long, tt)) (record { long = h; few = omega arith; tidy = λ k lt. absurd (not-suc-le-zero lt) })

  first_node : (p : ℕ) (area : List ℕ) → g.nodes * g.size ≤ length area → node_at g 0 (put_node g 0 (new_node (stride K) fan p (x ∷ [])) area) ≡ new_node (stride K) fan p (x ∷ [])
  unfolding g x All
  first_node p area h = node_same g 0 area refl (fits g 0 area (nodes_least fan limit) h) (new_node (stride K) fan p (x ∷ [])) (tidy_formed (stride K) fan (new_node (stride K) fan p (x ∷ [])) (tidy_made (stride K) fan p 0 (x ∷ []) (omega (arith, z.fan_low)) (ap suc small.long, tt)) (omega arith))

  lens_small : (v : ℕ) → (slot_of x).lens v < 4294967296
  unfolding x
  lens_small v = rw (add-one v) (each_small 4294967296 l (omega arith) small.small v)

  abbrev start : State
  start = begun K fan limit stamp l ls xs hs

  fresh : Fresh (tree_of (stride K) start) (slot_of x) (slot_of x)
  unfolding begun g x
  fresh = record {
    fan_low = z.fan_low;
    fan_high = z.fan_high;
    limit_low = z.limit_low;
    limit_high = z.limit_high;
    root = refl;
    next = refl;
    levels = refl;
    leaves = refl;
    entries = refl;
    leaf_slots_law = ap slots_of (first_node 0 ls z.leaf_area);
    leaf_parent = ap (λ (n : Node). n.parent) (first_node 0 ls z.leaf_area);
    leaf_place = ap (λ (n : Node). n.at) (first_node 0 ls z.leaf_area);
    inner_slots = ap slots_of (first_node none xs z.inner_area);
    inner_parent = ap (λ (n : Node). n.parent) (first_node none xs z.inner_area);
    inner_place = ap (λ (n : Node). n.at) (first_node none xs z.inner_area);
    home = get_or-set_same hs 0 0 0 (omega (arith, z.limit_low, z.home_area));
    id = refl;
    above = refl;
    sums = λ v. refl;
    small = lens_small;
  }

  neat : Neat (stride K) start
  unfolding begun g x
  neat = record {
    leaf_area = (first_keeps 0 ls z.leaf_area).long;
    inner_area = (first_keeps none xs z.inner_area).long;
    home_area = rw (length-set hs 0 0) z.home_area;
    leaf_count = nodes_least fan limit;
    inner_count = nodes_least fan limit;
    leaf_tidy = (first_keeps 0 ls z.leaf_area).tidy;
    inner_tidy = (first_keeps none xs z.inner_area).tidy;
    view = tt;
  }

  start_sound : Coherent K start
  unfolding begun
  start_sound = sound_up (stride K) start K.effect neat (record { body = fresh_body (tree_of (stride K) start) (slot_of x) (slot_of x) fresh; finger = tt })

  pub begun_mirrors : Mirrors K (begun K fan limit stamp l ls xs hs) (made_row limit l)
  unfolding begun firsts x
  begun_mirrors = record { coherent = start_sound; entries = entries_are K start start_sound ∙ ap (map (entry_from K.views)) (fresh_row (tree_of (stride K) start) (slot_of x) (slot_of x) fresh) ∙ ap (λ (y : Entry). y ∷ []) (entry_is K.views x (ap suc small.long)); limit = refl }

-- reset on a tree with good areas: crossed bounds alone refuse it
module _ (K : Kind) (t : State) (w : Coherent K t) (l : List ℕ) (few : too_many_lines K l ≡ false) where
  abbrev cs : List Cause
  cs = make_causes K t.head.fan t.head.limit l t.leaves t.inners t.homes

  abbrev refuse : ℕ → calls.Reply (Numbered (Unit {0}))
  refuse n = calls.reply t (Err n)

  abbrev answered : calls.Reply (Numbered (Unit {0}))
  answered = calls.reply (begun K t.head.fan t.head.limit (next_stamp t.head.stamp) l t.leaves t.inners t.homes) (Ok tt)

  causes : refusal cs ≡ refusal (crossed_bounds K l ∷ [])
  unfolding refusal
  causes = few_lines K l (area_causes K t.head.fan t.head.limit t.leaves t.inners t.homes ++ crossed_bounds K l ∷ []) few ∙ good_areas K t w (crossed_bounds K l ∷ [])

  pub reset_is : crossed K l ≡ false → calls.reset K t l ≡ answered
  unfolding calls.reset refusal
  reset_is level = passed cs refuse answered (causes ∙ level_bounds K l [] level)

  pub reset_stops : crossed K l ≡ true → calls.reset K t l ≡ calls.reply t (Err 20)
  unfolding calls.reset refusal
  reset_stops e = stopped cs refuse answered 19 (causes ∙ crossed_bounds_law K l [] e)

  pub step_reset : Words K l → Simulates (Mirrors K) (tree_move K t (row.reset l)) (row_move K (row_of K t) (row.reset l))
  unfolding tree_move row_move refusal
  step_reset small = go (crossed K l) refl
    where
      sizes : Sizes K t.head.fan t.head.limit t.leaves t.inners t.homes
      sizes = record {
        fan_low = w.fan_least;
        fan_high = w.fan_most;
        limit_low = w.limit_least;
        limit_high = w.limit_most;
        leaf_area = w.leaf_area;
        inner_area = w.inner_area;
        home_area = w.home_area;
      }

      go : (b : Bool) → crossed K l ≡ b → Simulates (Mirrors K) (told (calls.reset K t l) outcome_answer) (unless (row_of K t) (row.crossed_bounds K l ∷ []) (made_row t.head.limit l).entries (done []))
      go true e = rw (reset_stops e, row_stopped (row_of K t) (row.crossed_bounds K l ∷ []) (made_row t.head.limit l).entries (done []) 19 (crossed_bounds_law K l [] e)) (record { same = refl; kept = own K t w })
      go false e =
          rw (reset_is e, row_passed (row_of K t) (row.crossed_bounds K l ∷ []) (made_row t.head.limit l).entries (done []) (level_bounds K l [] e))
          (record { same = refl; kept = begun_mirrors K t.head.fan t.head.limit (next_stamp t.head.stamp) l t.leaves t.inners t.homes sizes small })
