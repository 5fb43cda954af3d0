-- The finger's walk within its leaf, back and on: it comes to the slot that holds the index, or the leaf doesn't hold it.
use Rattle.std.specs.Prelude.{◌≡◌, List, [], ◌∷◌, ◌++◌, length, get_or, take, drop, Ok, Some, None}
use Rattle.std.proofs.Common.{sym, ap, ap₂, ◌∙◌, subst, length-append, length-drop, take-append-drop, take-suc, take-add, get_or-drop, lt-ltb, le-ltb}
use Prim.Native.Nat.{ℕ, zero, suc, ◌+◌, ◌-◌, ◌%◌, ◌^◌, ◌≤◌, ◌<◌}
use Rattle.std.proofs.Math.Decide.{dec_lt}
use native.Mathlib.Omega.{arith}
use Rattle.std.proofs.Math.Seq.{take-append_seam, get_or-append_seam}
use Rattle.model.specs.Lists.{sum_by}
use Rattle.model.specs.Node as node
use Rattle.model.specs.Node.{length_in, find_from}
use Rattle.model.specs.Locate.{finger, less, Stand, back, moved_to, walked}
use Rattle.model.specs.Node.{Found}
use Rattle.model.specs.declared.head.Finger.{Finger}
use Rattle.model_tree.specs.Lists.{sum_by_append}
use Rattle.model_theory.specs.WalkDown.{Hit, find_hit, find_miss}

pub total_split : (v n : ℕ) (xs : List (List ℕ)) → node.total v xs ≡ node.total v (take n xs) + node.total v (drop n xs)
total_split v n xs = ap (node.total v) (sym (take-append-drop n xs)) ∙ sum_by_append (length_in v) (take n xs) (drop n xs)

total_suc : (v : ℕ) (xs : List (List ℕ)) (j : ℕ) → j < length xs → node.total v (take (suc j) xs) ≡ node.total v (take j xs) + length_in v (get_or xs j [])
unfolding sum_by
total_suc v xs j lt =
    let z : node.total v (take j xs ++ get_or xs j [] ∷ []) ≡ node.total v (take j xs) + (length_in v (get_or xs j []) + 0) = sum_by_append (length_in v) (take j xs) (get_or xs j [] ∷ []) in
    ap (node.total v) (take-suc xs j [] lt) ∙ omega arith

-- a slot of the walk: its sums are those before it
pub record Pre (v e : ℕ) (xs : List (List ℕ)) (index : ℕ) (b : Stand) : Type 0 where
  pub fits : b.slot ≤ length xs
  pub within : b.within ≡ node.total v (take b.slot xs)
  pub effect : b.within_effect ≡ node.total e (take b.slot xs)
  pub prepare : b.within_prepare ≡ node.total 0 (take b.slot xs)
  pub past : b.within ≤ index

-- the slot that a walk finds, with the sums before it
pub record WalkReached (v e : ℕ) (xs : List (List ℕ)) (f : Finger) (index : ℕ) : Type 0 where
  pub slot : ℕ
  pub offset : ℕ
  pub within_effect : ℕ
  pub within_prepare : ℕ
  pub is : walked v e f index xs ≡ Ok (Some (finger f.view f.leaf f.start f.effect slot (index - offset) within_effect f.prepare within_prepare, offset))
  pub slot_in_law : slot < length xs
  pub sums : node.total v (take slot xs) + offset ≡ index
  pub effect : within_effect ≡ node.total e (take slot xs)
  pub prepare : within_prepare ≡ node.total 0 (take slot xs)
  pub inside : offset < length_in v (get_or xs slot [])

module _ (v e : ℕ) (xs : List (List ℕ)) (sv : node.total v xs < 4294967296) (se : node.total e xs < 4294967296) (sp : node.total 0 xs < 4294967296) where
  back_pre : (index j w ew pw : ℕ) → j ≤ length xs → w ≡ node.total v (take j xs) → ew ≡ node.total e (take j xs) → pw ≡ node.total 0 (take j xs) → Pre v e xs index (back v e xs index j w ew pw)
  unfolding back sum_by
  back_pre index zero w ew pw le p q r = record { fits = le; within = p; effect = q; prepare = r; past = omega arith }
  back_pre index (suc j) w ew pw le p q r = elim (dec_lt index w) [
    | yes lt ↦ (rw (lt-ltb index w lt) (back_pre index j (less w (length_in v (get_or xs j []))) (less ew (length_in e (get_or xs j []))) (less pw (length_in 0 (get_or xs j []))) (omega arith)
        (let z = total_suc v xs j le in let y = total_split v (suc j) xs in omega arith) (let z = total_suc e xs j le in let y = total_split e (suc j) xs in omega arith)
        (let z = total_suc 0 xs j le in let y = total_split 0 (suc j) xs in omega arith)))
    | no ge ↦ (rw (le-ltb index w (omega arith)) (record { fits = le; within = p; effect = q; prepare = r; past = omega arith }))
  ]

  module _ (f : Finger) (index : ℕ) (fits : f.slot ≤ length xs) (wi : f.within ≡ node.total v (take f.slot xs)) (ew : f.effect_within ≡ node.total e (take f.slot xs)) (pw : f.prepare_within ≡ node.total 0 (take f.slot xs)) where
    stop : Stand
    stop = back v e xs index f.slot f.within f.effect_within f.prepare_within

    pre : Pre v e xs index stop
    unfolding stop
    pre = back_pre index f.slot f.within f.effect_within f.prepare_within fits wi ew pw

    walk_is : (r : Found) → find_from v e stop.slot (index - stop.within) stop.within_effect stop.within_prepare (drop stop.slot xs) ≡ r → walked v e f index xs ≡ moved_to v e f index r
    unfolding walked stop
    walk_is r q = rw (le-ltb index stop.within pre.past, q)

    pub walk_hit : index < node.total v xs → WalkReached v e xs f index
    walk_hit lt = go (find_hit v e stop.slot (index - stop.within) stop.within_effect stop.within_prepare (drop stop.slot xs) (let z = total_split v stop.slot xs in omega (arith, pre.within, pre.past)))
      where
        go : Hit v e stop.slot (index - stop.within) stop.within_effect stop.within_prepare (drop stop.slot xs) → WalkReached v e xs f index
        go h =
            let n : ℕ = stop.slot in
            let m : ℕ = length h.front in
            let ld : length (drop n xs) ≡ m + suc (length h.behind) = ap length h.row ∙ length-append h.front (h.here ∷ h.behind) in
            let ll : length (drop n xs) ≡ length xs - n = length-drop n xs in
            let tk : take (n + m) xs ≡ take n xs ++ h.front = take-add n m xs ∙ ap (λ (l : List (List ℕ)). take n xs ++ l) (ap (take m) h.row ∙ take-append_seam h.front (h.here ∷ h.behind)) in
            let tot : (u : ℕ) → node.total u (take (n + m) xs) ≡ node.total u (take n xs) + node.total u h.front = λ u. ap (node.total u) tk ∙ sum_by_append (length_in u) (take n xs) h.front in
            let ew : ℕ = stop.within_effect + node.total e h.front in
            let ex : ew ≡ node.total e (take (n + m) xs) = omega (arith, pre.effect, tot e) in
            let small : ew % 2 ^ 32 ≡ ew = (let y = total_split e (n + m) xs in omega arith) in
            let pw : ℕ = stop.within_prepare + node.total 0 h.front in
            let px : pw ≡ node.total 0 (take (n + m) xs) = omega (arith, pre.prepare, tot 0) in
            let few : pw % 2 ^ 32 ≡ pw = (let y = total_split 0 (n + m) xs in omega arith) in
            record {
              slot = n + m;
              offset = h.offset;
              within_effect = ew;
              within_prepare = pw;
              is = walk_is (Some (n + m, h.offset, ew, pw)) h.got ∙ ap₂ (λ (k l : ℕ). Ok (Some (finger f.view f.leaf f.start f.effect (n + m) (index - h.offset) k f.prepare l, h.offset))) small few;
              slot_in_law = omega (arith, pre.fits);
              sums = omega (arith, h.sums, tot v, pre.within, pre.past);
              effect = ex;
              prepare = px;
              inside = subst (λ (y : List ℕ). h.offset < length_in v y) (sym (sym (get_or-drop n xs m []) ∙ ap (λ (l : List (List ℕ)). get_or l m []) h.row ∙ get_or-append_seam h.front h.here h.behind [])) h.inside;
            }

    pub walk_miss : node.total v xs ≤ index → walked v e f index xs ≡ Ok None
    walk_miss le = walk_is None (find_miss v e stop.slot (index - stop.within) stop.within_effect stop.within_prepare (drop stop.slot xs) (let z = total_split v stop.slot xs in omega (arith, pre.within, pre.past)))
