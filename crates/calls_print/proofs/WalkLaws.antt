-- The walk over the leaves: after each leaf, the lines of what is left are those of what is met from the next leaf on. Assumes nothing.
use Rattle.model.specs.declared.way.Broken.{Broken}
use Rattle.model.specs.Numbered.{broken}
use Rattle.std.specs.Prelude.{Ok, Err, Some, Option, Result}
use Rattle.std.proofs.Common.{◌≡◌, ℕ, ◌+◌, ◌-◌, ◌*◌, ◌<◌, ◌≤◌, min, Bool, true, false, cond, eqb, ltb, List, [], ◌++◌, length, take, sym, refl, ap, ◌∙◌, subst, arith, length-append, length-take-le, ltb-false, ltb-true, eq-eqb, ne_eqb}
use Rattle.model.specs.Kind.{kind}
use Rattle.model.specs.Lists.{put_at}
use Rattle.model.specs.State.{node_at}
use Rattle.model.specs.Climb.{next_up}
use Rattle.model.specs.Print.{slot_lines}
use Rattle.model.specs.declared.shape.Shape.{Shape}
use Rattle.model.specs.declared.number.LeafNo.{LeafNo}
use Rattle.model_laws.specs.Words.{put_none}
use Rattle.model_laws.specs.AreaRead.{slots_are}
use Rattle.model_laws.specs.Met.{Within, met, met_few, met_leaf}
use Rattle.calls_print.specs.Laid.{Laid, laid, laid_by}
use Rattle.calls_print.proofs.LaidLaws.{laid_all, laid_at}

-- the least of two, as the definition says it
least_is : (a b : ℕ) → min a b ≡ cond (ltb a b) a b
least_is a b = go (ltb a b) refl
  where
    go : (t : Bool) → ltb a b ≡ t → min a b ≡ cond t a b
    go true q = let h : a < b = ltb-true a b q in omega arith
    go false q = let h : b ≤ a = ltb-false a b q in omega arith

-- the leaf at which the walk stands is in the area
pub leaf_in_law : (g : Shape) (l : Result (Option LeafNo) Broken) (k : LeafNo) → Within g l → l ≡ Ok (Some k) → k.0 < g.nodes
leaf_in_law g l k h e = subst (Within g) e h

-- what the lines answer, by whether all slots were met
abbrev pub all_met : Bool → Result (Unit {0}) Broken
all_met b = cond b (Ok tt) (Err broken)

module _ (e : ℕ) (g : Shape) (levels : ℕ) (ls xs : List ℕ) where
  -- what is known on the way: n slots are still to be met from l on, the lines before them are written, with the lengths in view e
  pub record Going (entries : ℕ) (first : Result (Option LeafNo) Broken) (old : List ℕ) (n : ℕ) (l : Result (Option LeafNo) Broken) (w : Laid) : Type 0 where
    pub few : n ≤ entries
    pub place : w.at ≡ 55 * (entries - n)
    pub long : length w.page ≡ length old
    pub count : length (met g levels ls xs n l) + (entries - n) ≡ length (met g levels ls xs entries first)
    pub text : (views : ℕ) → put_at w.at (slot_lines (kind views e) w.p w.q (met g levels ls xs n l)) w.page
        ≡ put_at 0 (slot_lines (kind views e) 0 0 (met g levels ls xs entries first)) old

  module _ (entries : ℕ) (first : Result (Option LeafNo) Broken) (old : List ℕ) (room : 55 * entries ≤ length old) where
    pub start : (l : Result (Option LeafNo) Broken) → l ≡ first → Going entries first old entries l (laid 0 0 0 old)
    start l same =
        let z : entries - entries ≡ 0 = omega arith in
        record {
          few = omega arith;
          place = omega arith;
          long = refl;
          count = rw (same, z) (omega arith);
          text = λ views. rw same;
        }

    -- the lines of a leaf
    pub onward : (n : ℕ) (l : Result (Option LeafNo) Broken) (w : Laid) → Going entries first old n l w → (k : LeafNo) → l ≡ Ok (Some k) → (len : ℕ) → len ≡ (node_at g k.0 ls).len → (len ≡ 0 → ⊥) → len ≤ g.fan
        → (c : ℕ) → c ≡ min len n → (new : Laid) → new ≡ laid_by e (take c (node_at g k.0 ls).slots) w → length new.page ≡ length w.page
        → (p a : ℕ) → p ≡ (node_at g k.0 ls).parent → a ≡ (node_at g k.0 ls).at → (q : Result (Option LeafNo) Broken) → q ≡ next_up g levels 0 p a xs
        → Going entries first old (n - c) q new
    onward n l w i k el len eh ne le c ec new en ll p a ep ea q eq =
        let front : List (List ℕ) = take c (node_at g k.0 ls).slots in
        let lf : length (take c (node_at g k.0 ls).slots) ≡ c = length-take-le c (node_at g k.0 ls).slots (omega (arith, slots_are g k.0 ls)) in
        let m : met g levels ls xs n l ≡ front ++ met g levels ls xs (n - c) q =
        rw (el, eq, ep, ea) (met_leaf g levels ls xs k len eh le n c (omega arith) (ec ∙ least_is len n)) in
        let lm : length (met g levels ls xs n l) ≡ c + length (met g levels ls xs (n - c) q) = ap length m ∙ length-append front (met g levels ls xs (n - c) q) ∙ ap (λ (j : ℕ). j + length (met g levels ls xs (n - c) q)) lf in
        record {
          few = omega (arith, i.few);
          place = ap (λ (y : Laid). y.at) en ∙ laid_at e front w ∙ omega (arith, i.place, i.few);
          long = ll ∙ i.long;
          count = omega (arith, i.count, i.few);
          text = λ views. ap (λ (y : Laid). put_at y.at (slot_lines (kind views e) y.p y.q (met g levels ls xs (n - c) q)) y.page) en
              ∙ laid_all (kind views e) front (met g levels ls xs (n - c) q) w (omega (arith, met_few g levels ls xs (n - c) q 0, i.place, i.long, i.few))
              ∙ ap (λ (y : List (List ℕ)). put_at w.at (slot_lines (kind views e) w.p w.q y) w.page) (sym m) ∙ i.text views;
        }

    -- nothing more is met
    module _ (n : ℕ) (l : Result (Option LeafNo) Broken) (w : Laid) (i : Going entries first old n l w) (m : met g levels ls xs n l ≡ []) where
      written : (views : ℕ) → w.page ≡ put_at 0 (slot_lines (kind views e) 0 0 (met g levels ls xs entries first)) old
      unfolding slot_lines
      written views = sym (put_none w.at w.page) ∙ ap (λ (y : List (List ℕ)). put_at w.at (slot_lines (kind views e) w.p w.q y) w.page) (sym m) ∙ i.text views

      pub stopped : 0 < n → (Err broken ≡ all_met (eqb (length (met g levels ls xs entries first)) entries)) × ((views : ℕ) → w.page ≡ put_at 0 (slot_lines (kind views e) 0 0 (met g levels ls xs entries first)) old)
      stopped h = (rw (ne_eqb (length (met g levels ls xs entries first)) entries (λ z. omega (arith, i.count, i.few, ap length m))) refl, written)

      pub ended : n ≤ 0 → (Ok tt ≡ all_met (eqb (length (met g levels ls xs entries first)) entries)) × ((views : ℕ) → w.page ≡ put_at 0 (slot_lines (kind views e) 0 0 (met g levels ls xs entries first)) old)
      ended h = (rw (eq-eqb (length (met g levels ls xs entries first)) entries (omega (arith, i.count, i.few, ap length m))) refl, written)
