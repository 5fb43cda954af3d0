-- What repair answers, by its tests. Assumes nothing.
use Rattle.model.specs.Numbered.{Numbered}
use Rattle.std.specs.Prelude.{Ok, Err}
use mathlib.Core.Path.{◌≡◌, refl, sym, ap, ap₂, subst, ◌∙◌}
use mathlib.Core.Bool.{Bool, true, false, cond, ◌&&◌}
use mathlib.Core.List.{List}
use Prim.Native.Nat.{ℕ, suc, ◌+◌, ◌*◌, ◌/◌, ◌%◌, ◌≤◌}
use native.Mathlib.Omega.{arith}
use native.Mathlib.Nat.{div-add-mod', mul-le-mul_left}
use lib.ListN.{length, replicate, length-replicate}
use lib.Dec.{ltb}
use Rattle.model.specs.Kind.{stride, kind, kind_of}
use Rattle.model.specs.Node.{half}
use Rattle.model.specs.State.{State, state, nodes_for}
use Rattle.model.specs.Refuse.{shape_of}
use Rattle.model.specs.Calls.{Reply, reply}
use Rattle.model.specs.Mend.{no_finger, is_fit}
use Rattle.model.specs.Repair.{mend_if, repair_if}
use Rattle.model.specs.declared.shape.Kind.{Kind}
use Rattle.model.specs.declared.shape.Shape.{Shape}
use Rattle.model.specs.declared.head.Head.{Head}
use Rattle.tree_open.specs.Open.{opened_by}
use Rattle.tree_open.proofs.Causes.{good_shape, good_number, call_refused, call_good}
use Rattle.tree_open.proofs.OpenLaws.{areas_of}
use Rattle.calls_make.proofs.BeginLaws.{room}
use Rattle.model_theory.specs.CallMake.{Sizes, sizes_of}
use Rattle.model_theory.specs.RepairTest.{areas_of_law, test_fit}
use Rattle.calls_repair_test.specs.Queue.{kids_of}
use Rattle.calls_repair_test.specs.Reach.{QueueReached}
use Rattle.calls_repair_test.specs.Fit.{FreshQueue}
use Rattle.calls_repair.specs.Job.{Job, Open, JobDone}

-- the three ways to an answer
module _ (K : Kind) (t : State) (fair : Bool) {ok : Bool} (e : ok ≡ is_fit K t) where
  pub not_fit : ok ≡ false → reply t (Err 21) ≡ mend_if K (is_fit K t && fair) t
  not_fit q = rw (sym e ∙ q)

  pub not_fair : ok ≡ true → fair ≡ false → reply t (Err 21) ≡ mend_if K (is_fit K t && fair) t
  not_fair q f = rw (sym e ∙ q, f)

  pub is_mended : ok ≡ true → fair ≡ true → {x : Head} {lb xb hb : List ℕ} {n : ℕ} → x ≡ no_finger t.head → JobDone (stride K) t.head t.leaves t.inners t.homes n lb xb hb
      → reply (state x lb xb hb) (Ok n) ≡ mend_if K (is_fit K t && fair) t
  is_mended q f {x} {lb} {xb} {hb} ex w =
      rw (sym e ∙ q, f) (ap₂ (λ (z : State) (k : ℕ). reply z (Ok k)) (ap (λ (y : Head). state y lb xb hb) ex ∙ w.tree) w.count)

-- what the test and the writer are handed
module _ {h : Head} {g : Shape} {ls xs hs : List ℕ} (w : Open h g ls xs hs) where
  sizes : Sizes (kind w.views 0) h.fan h.limit ls xs hs
  sizes = sizes_of (kind w.views 0) h.fan h.limit ls xs hs w.sizes

  few : nodes_for h.fan h.limit ≤ 32768
  few =
      let x : ℕ = h.limit / half h.fan in
      let a : x * half h.fan + h.limit % half h.fan ≡ h.limit = div-add-mod' h.limit (half h.fan) in
      let c : 2 ≤ half h.fan = omega (arith, sizes.fan_low) in
      let b : x * 2 ≤ x * half h.fan = more x (half h.fan) c in
      go (ltb x 1) (omega (arith, sizes.limit_high))
    where
      more : (x y : ℕ) → 2 ≤ y → x * 2 ≤ x * y
      more x y c = mul-le-mul_left x c

      go : (b : Bool) → h.limit / half h.fan ≤ 32768 → cond b 1 (h.limit / half h.fan) ≤ 32768
      go true l = omega arith
      go false l = l

  pub fresh_of : FreshQueue h g (length (replicate {A = ℕ} 131072 0)) (replicate 32768 0) (replicate 32768 0) (replicate 65536 0)
  fresh_of = record {
    views = w.views;
    same = w.same;
    nodes = subst (λ (z : Shape). z.nodes ≤ 32768) (sym w.same) few;
    limit = sizes.limit_high;
    order = omega (arith, length-replicate {A = ℕ} 131072 0);
    inner_marks = refl;
    leaf_marks = refl;
    id_marks = refl;
  }

  pub leaf_room : g.nodes * g.size ≤ length ls
  leaf_room = subst (λ (z : Shape). z.nodes * z.size ≤ length ls) (sym w.same) sizes.leaf_area

  pub inner_room : g.nodes * g.size ≤ length xs
  inner_room = subst (λ (z : Shape). z.nodes * z.size ≤ length xs) (sym w.same) sizes.inner_area

  pub job_of : (ordered : Bool) {ok : Bool} {last : ℕ} {order : List ℕ} → ok ≡ is_fit (kind_of w.views 0 ordered) (state h ls xs hs) → ok ≡ true
      → QueueReached (kids_of g xs) h.root.0 h.levels h.inners h.leaves last order → Job h g last order ls xs hs
  job_of ordered {ok} {last} {order} e q r =
      let z : Sizes (kind_of w.views 0 ordered) h.fan h.limit ls xs hs = sizes_of (kind_of w.views 0 ordered) h.fan h.limit ls xs hs w.sizes in
      record {
        views = w.views;
        same = w.same;
        shaped = w.shaped;
        fits = (test_fit (kind_of w.views 0 ordered) (state h ls xs hs) z (sym e ∙ q)).fits;
        areas = areas_of_law (kind_of w.views 0 ordered) (state h ls xs hs) z;
        reached = r;
      }

  -- what the writer leaves, by the shape that was opened
  pub job_done : (ordered : Bool) {ok : Bool} {last : ℕ} {order : List ℕ} → ok ≡ is_fit (kind_of w.views 0 ordered) (state h ls xs hs) → ok ≡ true
      → QueueReached (kids_of g xs) h.root.0 h.levels h.inners h.leaves last order → {n : ℕ} {lb xb hb : List ℕ}
      → ((j : Job h g last order ls xs hs) → JobDone (suc j.views) h ls xs hs n lb xb hb) → JobDone (suc w.views) h ls xs hs n lb xb hb
  unfolding job_of
  job_done ordered e q r f = f (job_of ordered e q r)

-- the call
module _ (views effect : ℕ) (ordered : Bool) (wide : (1 ≤ views) × (views ≤ 3)) (t : State) {o : Numbered Shape}
    (e : o ≡ opened_by (areas_of (kind_of views effect ordered) t) (shape_of (kind_of views effect ordered) t.head)) where
  abbrev K : Kind
  K = kind_of views effect ordered

  pub call_stops : (fair : Bool) {n : ℕ} → o ≡ Err n → reply t (Err n) ≡ repair_if K fair t
  unfolding repair_if
  call_stops fair {n} d = call_refused (λ n. reply t (Err n)) (λ (g : Shape). mend_if K (is_fit K t && fair) t) _ _ o e n d

  pub opens : {g : Shape} → o ≡ Ok g → Open t.head g t.leaves t.inners t.homes
  opens {g} d = record {
    views = views;
    same = sym (good_shape (areas_of K t) _ g (sym e ∙ d));
    shaped = (room K wide t.head.fan t.head.limit t.leaves t.inners t.homes o e g d).shaped;
    sizes = good_number (areas_of K t) _ g (sym e ∙ d);
  }

  pub call_goes : (fair : Bool) {g : Shape} → o ≡ Ok g → {r : Reply (Numbered ℕ)}
      → ((effect : ℕ) (w : Open t.head g t.leaves t.inners t.homes) → r ≡ mend_if (kind_of w.views effect ordered) (is_fit (kind_of w.views effect ordered) t && fair) t)
      → r ≡ repair_if K fair t
  unfolding repair_if opens
  call_goes fair {g} d {r} q = call_good (λ n. reply t (Err n)) (λ (g : Shape). mend_if K (is_fit K t && fair) t) _ _ o e g d r (q effect (opens d))
