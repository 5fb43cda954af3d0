-- What print answers, from what its tests answered and what was written. Assumes nothing.
use Rattle.model.specs.declared.way.Broken.{Broken}
use Rattle.model.specs.Numbered.{Numbered, broken}
use Rattle.std.specs.Prelude.{Ok, Err, Result}
use Rattle.std.proofs.Common.{◌≡◌, ℕ, ◌+◌, ◌-◌, ◌*◌, ◌<◌, ◌≤◌, Bool, true, false, cond, eqb, List, ◌++◌, length, sym, refl, ap, ◌∙◌, arith, eqb-true}
use Rattle.model.specs.Lists.{put_at}
use Rattle.model.specs.State.{State}
use Rattle.model.specs.Climb.{first_down}
use Rattle.model.specs.Refuse.{shape_of}
use Rattle.model.specs.Sheet.{blank_lines, pages_for, fill}
use Rattle.model.specs.Print.{print_causes, slots_met, slot_lines, print}
use Rattle.model.specs.declared.shape.Kind.{Kind}
use Rattle.model.specs.declared.shape.Shape.{Shape}
use Rattle.model_laws.specs.Words.{put_next}
use Rattle.model_laws.specs.Sheet.{length_slot_lines, length_blank_lines}
use Rattle.model_laws.specs.Met.{met}
use Rattle.tree_area.specs.Area.{AreaHolds}
use Rattle.tree_open.proofs.Causes.{call_refused, call_good}
use Rattle.tree_open.proofs.ReadyLaws.{leaf_area, inner_area, view_in}
use Rattle.tree_open.specs.Open.{opened_by}
use Rattle.calls_print.proofs.OpenLaws.{print_ready}
use Rattle.calls_print.proofs.WalkLaws.{all_met}

-- what the lines' answer says
met_all : (b : Bool) → all_met b ≡ Ok tt → b ≡ true
met_all true e = refl
met_all false e = cc

met_less : (b : Bool) → all_met b ≡ Err broken → b ≡ false
met_less true e = cc
met_less false e = refl

module _ (K : Kind) (s : State) (page : List ℕ) (o : Numbered Shape) (e : o ≡ opened_by (print_causes K s (length page)) (shape_of K s.head)) where
  abbrev met_by : Shape → List (List ℕ)
  met_by g = met g s.head.levels s.leaves s.inners s.head.entries (first_down g s.head.levels s.head.root.0 s.inners)

  abbrev refuse : ℕ → (Numbered ℕ) × List ℕ
  refuse n = (Err n, page)

  abbrev answer_by : Shape → (Numbered ℕ) × List ℕ
  answer_by g =
      let n = s.head.entries in
      cond (eqb (length (met_by g)) n) (Ok (pages_for n), put_at 0 (slot_lines K 0 0 (met_by g) ++ fill n) page) (Err 9, put_at 0 (slot_lines K 0 0 (met_by g)) page)

  pub print_refused : (n : ℕ) → o ≡ Err n → (Err n, page) ≡ print K s page
  unfolding print slots_met
  print_refused n d = call_refused refuse answer_by _ (shape_of K s.head) o e n d

  module _ (w : (1 ≤ K.views) × (K.views ≤ 3)) (g : Shape) (d : o ≡ Ok g) where
    -- what the lines ask for
    pub room : K.effect < K.views → AreaHolds g (length s.leaves) × AreaHolds g (length s.inners) × (K.effect + 1 < g.stride) × (s.head.levels ≤ 15) × (55 * s.head.entries ≤ length page)
    room v =
        let r = print_ready K s (length page) w g o e d in
        (leaf_area s g r.0, inner_area s g r.0, view_in s g K.effect r.0 v, r.0.levels_most, omega (arith, r.1))

    -- the pages, and the blank lines on the last
    pub filled : (pages : ℕ) → pages ≡ pages_for s.head.entries → (pages ≤ 65536) × (s.head.entries ≤ 65536) × (55 * s.head.entries + 55 * (50 * pages - s.head.entries) ≤ length page)
    filled pages q =
        let r = print_ready K s (length page) w g o e d in
        (omega (arith, r.0.entries, r.0.limit_most), omega (arith, r.0.entries, r.0.limit_most), omega (arith, r.1))

    module _ (r : Result (Unit {0}) Broken) (new : List ℕ) (m : (r ≡ all_met (eqb (length (met_by g)) s.head.entries)) × (new ≡ put_at 0 (slot_lines K 0 0 (met_by g)) page)) where
      pub print_broken : r ≡ Err broken → (Err 9, new) ≡ print K s page
      unfolding print slots_met
      print_broken h =
          let f : eqb (length (met_by g)) s.head.entries ≡ false = met_less _ (sym m.0 ∙ h) in
          call_good refuse answer_by _ (shape_of K s.head) o e g d (Err 9, new) (rw f (ap (λ (l : List ℕ). (Err 9, l)) m.1))

      pub print_good : r ≡ Ok tt → (pages : ℕ) → pages ≡ pages_for s.head.entries → (last : List ℕ) → last ≡ put_at (55 * s.head.entries) (blank_lines (50 * pages - s.head.entries)) new
          → (Ok pages, last) ≡ print K s page
      unfolding print slots_met
      print_good h pages q last el =
          let t : eqb (length (met_by g)) s.head.entries ≡ true = met_all _ (sym m.0 ∙ h) in
          let n : ℕ = s.head.entries in
          let text : List ℕ = slot_lines K 0 0 (met_by g) in
          let lt : length (slot_lines K 0 0 (met_by g)) ≡ 55 * s.head.entries = length_slot_lines K 0 0 (met_by g) ∙ ap (λ (k : ℕ). 55 * k) (eqb-true (length (met_by g)) s.head.entries t) in
          let whole : last ≡ put_at 0 (text ++ fill n) page =
          el ∙ rw (m.1, q) (put_next 0 (55 * n) text (fill n) page (omega arith) (omega (arith, length_blank_lines (50 * pages_for s.head.entries - s.head.entries), (filled (pages_for s.head.entries) refl).2))) in
          call_good refuse answer_by _ (shape_of K s.head) o e g d (Ok pages, last) (rw (t, q) (ap (λ (l : List ℕ). (Ok (pages_for n), l)) whole))
