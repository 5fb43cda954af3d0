-- The planning tree's list theorem: each of its calls comes to a call of a full tree's list, on tree and row alike, for the root's totals are the row's.
use Rattle.std.specs.Prelude.{◌≡◌, refl, Bool, true, false, cond, List, [], ◌∷◌, map, ℕ, ◌-◌, ◌<◌, ltb, length, Ok}
use Rattle.std.proofs.Common.{sym, ap₂, ◌∙◌, arith, length-append}
use Rattle.std.proofs.Math.Path.{ap, subst}
use Rattle.model.specs.Kind.{planning}
use Rattle.model.specs.Lists.{All, sum_by}
use Rattle.model.specs.Node.{used, wrap}
use Rattle.model.specs.State.{State}
use Rattle.model.specs.Row as row
use Rattle.model.specs.Row.{Row, Entry, Call, Answer, total, before, made_row, row_step}
use Rattle.model.specs.Sound.{inner_in}
use Rattle.model.specs.Refuse.{total_of}
use Rattle.model.specs.Calls.{make}
use Rattle.model.specs.ById.{tree_step}
use Rattle.model.specs.Promise.{Words, InWords, Leaves, Represents, answers}
use Rattle.model.specs.Plan as plan
use Rattle.model.specs.Plan.{PlanCall, InPlan, asked, said, row_plan, tree_plan, ByChoice, AlongPlan, PlanDemand, PlanRefusals}
use Rattle.model_tree.specs.Tree as tree
use Rattle.model_tree.specs.Levels.{len}
use Rattle.model_tree.specs.Place.{front, total_is}
use Rattle.model_theory.specs.LiftTree.{tree_of, sum_slots}
use Rattle.model_theory.specs.LiftSound.{body_of}
use Rattle.model_theory.specs.LiftEntries.{entry_from, total_entries}
use Rattle.model_theory.specs.CallOpen.{entry_found}
use Rattle.model_theory.specs.CallSimulates.{Simulates, entries_are, count_is, entries_at, before_is}
use Rattle.model_theory.specs.RowBounds.{represents_level}
use Rattle.model_theory.specs.CallById.{step}
use Rattle.model_theory.specs.RowNumbers.{row_nine}
use Rattle.model_theory.specs.AnyFixed.{step_fixed}
use Rattle.model_theory.specs.AnyRefused.{refusals}
use Rattle.model_theory.specs.TopById.{invariant_of, made, fan_made}
use Rattle.model_theory.specs.PlanRow.{by_choice}

-- the call that one comes to is in words, and asks for the totals of the two views alone
asked_words : (sum : ℕ → ℕ) (c : PlanCall) → InPlan c → InWords planning (asked sum c)
asked_words sum (plan.reset l) w = w
asked_words sum (plan.insert i l) w = w
asked_words sum (plan.split flag i l) w = w
asked_words sum (plan.set_lengths i l) w = w
asked_words sum (plan.lengths i) w = w
asked_words sum plan.count w = w
asked_words sum (plan.next i) w = w
asked_words sum (plan.earliest i) w = (omega arith, w)
asked_words sum (plan.latest i) w = (omega arith, w)
asked_words sum (plan.first_at p) w = (omega arith, w)
asked_words sum (plan.last_at p) w = go (ltb p (sum 0)) (ltb p (sum 1))
  where
    at : (b : Bool) → cond b (wrap (sum 1 - 1)) p < 4294967296
    at true = omega arith
    at false = w

    go : (a b : Bool) → InWords planning (cond a (row.lookup 0 p) (row.lookup 1 (cond b (wrap (sum 1 - 1)) p)))
    go true b = (omega arith, w)
    go false b = (omega arith, at b)

asked_same : (f g : ℕ → ℕ) → f 0 ≡ g 0 → f 1 ≡ g 1 → (c : PlanCall) → asked f c ≡ asked g c
asked_same f g a b (plan.reset l) = refl
asked_same f g a b (plan.insert i l) = refl
asked_same f g a b (plan.split flag i l) = refl
asked_same f g a b (plan.set_lengths i l) = refl
asked_same f g a b (plan.lengths i) = refl
asked_same f g a b plan.count = refl
asked_same f g a b (plan.next i) = refl
asked_same f g a b (plan.earliest i) = refl
asked_same f g a b (plan.latest i) = refl
asked_same f g a b (plan.first_at p) = refl
asked_same f g a b (plan.last_at p) = ap₂ (λ (m n : ℕ). cond (ltb p m) (row.lookup 0 p) (row.lookup 1 (cond (ltb p n) (wrap (n - 1)) p))) a b

-- a refusal keeps its number
said_number : (c : PlanCall) (a : Answer) → (said c a).number ≡ a.number
said_number (plan.reset l) a = refl
said_number (plan.insert i l) a = refl
said_number (plan.split flag i l) a = refl
said_number (plan.set_lengths i l) a = refl
said_number (plan.lengths i) a = refl
said_number plan.count a = refl
said_number (plan.next i) a = refl
said_number (plan.earliest i) a = refl
said_number (plan.latest i) a = refl
said_number (plan.first_at p) a = refl
said_number (plan.last_at p) a = refl

module _ (t : State) (r : Row) (h : Represents planning t r) where
  -- the root's totals are the row's, and words
  sums : (v : ℕ) → v < 2 → total_of planning t v ≡ sum_by (len v) (tree.row (tree_of 3 t))
  sums v lv = sym (sum_slots v (used (inner_in 3 t t.head.root.0))) ∙ total_is (tree_of 3 t) (body_of 3 t 1 h.sound.coherent) v

  total_row : (v : ℕ) → v < 2 → sum_by (len v) (tree.row (tree_of 3 t)) ≡ total v r.entries
  total_row v lv = sym (total_entries 2 v (tree.row (tree_of 3 t)) lv) ∙ ap (total v) (sym (entries_are planning t h.sound.coherent) ∙ h.entries)

  totals_are : (v : ℕ) → v < 2 → total_of planning t v ≡ total v r.entries
  totals_are v lv = sums v lv ∙ total_row v lv

  small : total 1 r.entries < 4294967296
  small = subst (λ (n : ℕ). n < 4294967296) (total_row 1 (omega arith)) ((body_of 3 t 1 h.sound.coherent).totals 1)

  -- every id below the count stands in the row
  there : (i : ℕ) → i < length r.entries → length (before i r.entries) < length r.entries
  there i lt =
      let w = h.sound.coherent in
      let n : length r.entries ≡ t.head.entries = ap length (sym h.entries) ∙ count_is planning t w in
      let c = entry_found planning t w i (omega arith) in
      subst (λ (es : List Entry). length (before i es) < length es) h.entries
      (let a = ap length (before_is planning t w i c) in
      let b = ap length (entries_at planning t w i c) ∙ length-append (map (entry_from 2) (front c.cur)) _ in
      omega arith)

  pub right : ByChoice r
  right = by_choice r (represents_level planning t r h) small there

  pub plan_step : (c : PlanCall) → InPlan c → Simulates (Represents planning) (tree_plan t c) (row_plan r c)
  unfolding tree_plan row_plan
  plan_step c w =
      let same : asked (total_of planning t) c ≡ asked (λ v. total v r.entries) c = asked_same (total_of planning t) (λ v. total v r.entries) (totals_are 0 (omega arith)) (totals_are 1 (omega arith)) c in
      let a : Simulates (Represents planning) (tree_step planning t (asked (total_of planning t) c)) (row_step planning r (asked (λ v. total v r.entries) c)) =
      subst (λ (d : Call). Simulates (Represents planning) (tree_step planning t (asked (total_of planning t) c)) (row_step planning r d)) same (step planning (omega arith) t r h (asked (total_of planning t) c) (asked_words (total_of planning t) c w)) in
      record { same = ap (said c) a.same; kept = a.kept }

-- never 9
plan_nine : (r : Row) (c : PlanCall) → (row_plan r c).answer.number ≡ 9 → ⊥
unfolding row_plan
plan_nine r c e = row_nine planning r (asked (λ v. total v r.entries) c) (sym (said_number c _) ∙ e)

plan_fan : (t : State) (c : PlanCall) → (tree_plan t c).after.head.fan ≡ t.head.fan
unfolding tree_plan
plan_fan t c = (step_fixed planning t (asked (total_of planning t) c)).fan

plans_alike : (t : State) (r : Row) (cs : List PlanCall) → Represents planning t r → All InPlan cs → answers tree_plan t cs ≡ answers row_plan r cs
unfolding answers All
plans_alike t r [] h w = refl
plans_alike t r (c ∷ cs) h w =
    let a : Simulates (Represents planning) (tree_plan t c) (row_plan r c) = plan_step t r h c w.0 in
    ap₂ ◌∷◌ a.same (plans_alike (tree_plan t c).after (row_plan r c).after cs a.kept w.1)

along_plan : (fan : ℕ) (t : State) (r : Row) (cs : List PlanCall) → Represents planning t r → t.head.fan ≡ fan → All InPlan cs → AlongPlan fan t r cs
unfolding AlongPlan All
along_plan fan t r [] h f w = (invariant_of planning (omega arith) fan t r h f, right t r h)
along_plan fan t r (c ∷ cs) h f w =
    let a : Simulates (Represents planning) (tree_plan t c) (row_plan r c) = plan_step t r h c w.0 in (
      invariant_of planning (omega arith) fan t r h f,
      right t r h,
      a.same,
      λ e. plan_nine r c (ap (λ (x : Answer). x.number) (sym a.same) ∙ e),
      along_plan fan (tree_plan t c).after (row_plan r c).after cs a.kept (plan_fan t c ∙ f) w.1,
    )

-- the list theorem
pub plan_whole : (fan limit : ℕ) (l ls xs hs : List ℕ) → Words planning l → (make planning fan limit l ls xs hs).answer ≡ Ok tt → PlanDemand fan limit l ls xs hs
plan_whole fan limit l ls xs hs small given =
    let h : Represents planning (make planning fan limit l ls xs hs).after (made_row limit l) = made planning (omega arith) fan limit l ls xs hs small given in
    record {
      answered = λ cs w. plans_alike (make planning fan limit l ls xs hs).after (made_row limit l) cs h w;
      each = λ cs w. along_plan fan (make planning fan limit l ls xs hs).after (made_row limit l) cs h (fan_made planning (omega arith) fan limit l ls xs hs small given) w;
    }

-- a refused call, on any words
pub plan_refusals : (s : State) → PlanRefusals s
unfolding tree_plan
plan_refusals s = record {
  step = λ c w.
      subst (λ (n : ℕ). Leaves n s (tree_step planning s (asked (total_of planning s) c)).after) (sym (said_number c (tree_step planning s (asked (total_of planning s) c)).answer))
      ((refusals planning s).step (asked (total_of planning s) c) (asked_words (total_of planning s) c w));
}
