-- A cursor passes again only once 2 ^ 64 entries were made since its issue, so after a reset none from before does; and with 2 ^ 64 one does.
use Rattle.model.specs.Numbered.{Numbered}
use Rattle.std.specs.Prelude.{◌≡◌, false, replicate, Ok}
use Rattle.std.proofs.Math.Path.{refl, ap, subst}
use Rattle.std.proofs.Common.{sym, ne_eqb}
use mathlib.Core.List.{List, [], ◌∷◌, ◌++◌}
use Prim.Native.Nat.{ℕ, zero, suc, ◌+◌, ◌^◌, ◌<◌}
use native.Mathlib.Omega.{arith}
use Rattle.model.specs.Kind.{too_many_lines, crossed}
use Rattle.model.specs.declared.shape.Kind.{Kind}
use Rattle.model.specs.Lists.{All, refusal}
use Rattle.model.specs.State.{State}
use Rattle.model.specs.Row.{Row, made_row}
use Rattle.model.specs.Refuse.{stale}
use Rattle.model.specs.Sound.{Coherent}
use Rattle.model.specs.Calls as calls
use Rattle.model.specs.Calls.{make, begun, cursor_at}
use Rattle.model.specs.Answer.{outcome_answer}
use Rattle.model.specs.ByCursor as by
use Rattle.model.specs.ByCursor.{CursorCall, cursor_step, entry_step, meant}
use Rattle.model.specs.Promise.{Words, CursorInWords, finally, Represents}
use Rattle.model.specs.Stamp.{one, makes, makes_all, Counts, GoesRound, AcrossReset, Stamped}
use Rattle.model.specs.declared.head.Cursor.{Cursor}
use Rattle.model_theory.specs.CallMake.{reset_is}
use Rattle.model_theory.specs.CallOpen.{fresh}
use Rattle.model_theory.specs.TopById.{made, made_is}
use Rattle.model_theory.specs.CallByCursor.{cursor_step_law}
use Rattle.model_theory.specs.StampCount.{below_64, made_by_law}

-- any tree ------------------------------------------------------------------------------------------------------------------------------------

pub never_again : (K : Kind) (s : State) → s.head.stamp < 2 ^ 64 → (c : Cursor) → c.stamp ≡ s.head.stamp → (cs : List CursorCall)
    → 0 < makes_all K s cs → makes_all K s cs < 2 ^ 64 → refusal (stale K (finally (cursor_step K) s cs) c) ≡ 3
unfolding refusal
never_again K s small c issued cs more less =
    let e = made_by_law K s small cs in
    rw (ne_eqb c.stamp (finally (cursor_step K) s cs).head.stamp (λ z. omega arith))

pub counts : (K : Kind) (s : State) → s.head.stamp < 2 ^ 64 → Counts K s
counts K s small = record { stamp = made_by_law K s small; shut = never_again K s small }

still_small : (K : Kind) (s : State) → s.head.stamp < 2 ^ 64 → (cs : List CursorCall) → (finally (cursor_step K) s cs).head.stamp < 2 ^ 64
still_small K s small cs = subst (λ (n : ℕ). n < 2 ^ 64) (sym (made_by_law K s small cs)) (below_64 (s.head.stamp + makes_all K s cs))

-- a tree that stands for a row ----------------------------------------------------------------------------------------------------------------

module _ (K : Kind) (l : List ℕ) (few : too_many_lines K l ≡ false) (level : crossed K l ≡ false) where
  -- no other cause refuses a reset there
  pub reset_makes : (s : State) → Coherent K s → makes K s (by.reset l) ≡ 1
  unfolding makes
  reset_makes s w = ap (λ (r : calls.Reply (Numbered (Unit {0}))). one (outcome_answer r.answer)) (reset_is K s w l few level)

  reset_lone : (s : State) → Coherent K s → (cursor_step K s (by.reset l)).after.head.leaves ≡ 1
  unfolding cursor_step begun
  reset_lone s w = ap (λ (r : calls.Reply (Numbered (Unit {0}))). r.after.head.leaves) (reset_is K s w l few level)

module _ (K : Kind) (ok : K.effect < K.views) where
  -- what a call leaves stands for a row again
  represents_after : (s : State) (r : Row) → Represents K s r → (c : CursorCall) → CursorInWords K c → Represents K (cursor_step K s c).after (entry_step K r (meant K s c)).after
  represents_after s r h c k = (cursor_step_law K ok s h.sound.coherent r h c k).kept

  reset_in : (s : State) (r : Row) → Represents K s r → (xs ys : List CursorCall) (l : List ℕ) → All (CursorInWords K) xs → too_many_lines K l ≡ false → crossed K l ≡ false → 0 < makes_all K s (xs ++ by.reset l ∷ ys)
  unfolding makes_all All
  reset_in s r h [] ys l k few level = (let z = reset_makes K l few level s h.sound.coherent in omega arith)
  reset_in s r h (x ∷ xs) ys l k few level = (let z = reset_in (cursor_step K s x).after (entry_step K r (meant K s x)).after (represents_after s r h x k.0) xs ys l k.1 few level in omega arith)

  pub across_reset : (s : State) (r : Row) → Represents K s r → s.head.stamp < 2 ^ 64 → (c : Cursor) → c.stamp ≡ s.head.stamp → (xs ys : List CursorCall) (l : List ℕ)
      → All (CursorInWords K) xs → too_many_lines K l ≡ false → crossed K l ≡ false
      → makes_all K s (xs ++ by.reset l ∷ ys) < 2 ^ 64 → refusal (stale K (finally (cursor_step K) s (xs ++ by.reset l ∷ ys)) c) ≡ 3
  across_reset s r h small c issued xs ys l k few level less = never_again K s small c issued (xs ++ by.reset l ∷ ys) (reset_in s r h xs ys l k few level) less

  -- n resets in a row
  module _ (l : List ℕ) (words : Words K l) (few : too_many_lines K l ≡ false) (level : crossed K l ≡ false) where
    resets_make : (n : ℕ) (s : State) (r : Row) → Represents K s r → makes_all K s (replicate n (by.reset l)) ≡ n
    unfolding makes_all
    resets_make zero s r h = refl
    resets_make (suc n) s r h =
        let a = reset_makes K l few level s h.sound.coherent in
        let b = resets_make n (cursor_step K s (by.reset l)).after (entry_step K r (meant K s (by.reset l))).after (represents_after s r h (by.reset l) words) in
        omega arith

    -- a coherent tree with one leaf
    abbrev Lone : State → Type 0
    Lone t = Coherent K t × (t.head.leaves ≡ 1)

    resets_lone : (n : ℕ) (s : State) (r : Row) → Represents K s r → 0 < n → Lone (finally (cursor_step K) s (replicate n (by.reset l)))
    unfolding finally
    resets_lone zero s r h more = absurd (omega arith)
    resets_lone (suc zero) s r h more = ((represents_after s r h (by.reset l) words).sound.coherent, reset_lone K l few level s h.sound.coherent)
    resets_lone (suc (suc n)) s r h more = resets_lone (suc n) (cursor_step K s (by.reset l)).after (entry_step K r (meant K s (by.reset l))).after (represents_after s r h (by.reset l) words) (omega arith)

    lone_passes : (t : State) → Lone t → (m : ℕ) → t.head.stamp ≡ m → refusal (stale K t (cursor_at m 0 0)) ≡ 0
    unfolding refusal
    lone_passes t w m e =
        let one_leaf : 0 < t.head.leaves = (let z = w.1 in omega arith) in
        let filled = (w.0.leaf_filled 0 one_leaf).low in
        subst (λ (n : ℕ). refusal (stale K t (cursor_at n 0 0)) ≡ 0) e (fresh K t w.0 0 0 [] one_leaf (rw w.1 at filled))

    module _ (s : State) (r : Row) (h : Represents K s r) (small : s.head.stamp < 2 ^ 64) where
      round_stamp : (n : ℕ) → n ≡ 2 ^ 64 → (finally (cursor_step K) s (replicate n (by.reset l))).head.stamp ≡ s.head.stamp
      round_stamp n e =
          let a = made_by_law K s small (replicate n (by.reset l)) in
          let b = resets_make n s r h in
          omega arith

      round_passes : (n : ℕ) → n ≡ 2 ^ 64 → refusal (stale K (finally (cursor_step K) s (replicate n (by.reset l))) (cursor_at s.head.stamp 0 0)) ≡ 0
      round_passes n e = lone_passes (finally (cursor_step K) s (replicate n (by.reset l))) (resets_lone n s r h (omega arith)) s.head.stamp (round_stamp n e)

      pub goes_round : GoesRound K s l
      goes_round = record { made = resets_make (2 ^ 64) s r h; stamp = round_stamp (2 ^ 64) refl; passes = round_passes (2 ^ 64) refl }

  pub across : (s : State) (r : Row) → Represents K s r → s.head.stamp < 2 ^ 64 → AcrossReset K s
  across s r h small = record { shut = across_reset s r h small; round = λ l words few level. goes_round l words few level s r h small }

  -- after every list of calls
  across_after : (s : State) (r : Row) → Represents K s r → s.head.stamp < 2 ^ 64 → (cs : List CursorCall) → All (CursorInWords K) cs → AcrossReset K (finally (cursor_step K) s cs)
  unfolding finally All
  across_after s r h small [] k = across s r h small
  across_after s r h small (c ∷ cs) k = across_after (cursor_step K s c).after (entry_step K r (meant K s c)).after (represents_after s r h c k.0) (still_small K s small (c ∷ [])) cs k.1

  -- from a make that isn't refused
  module _ (fan limit : ℕ) (l ls xs hs : List ℕ) (words : Words K l) (given : (make K fan limit l ls xs hs).answer ≡ Ok tt) where
    one_at_make : (make K fan limit l ls xs hs).after.head.stamp ≡ 1
    unfolding begun
    one_at_make = ap (λ (r : calls.Reply (Numbered (Unit {0}))). r.after.head.stamp) (made_is K ok fan limit l ls xs hs words given)

    pub stamped : Stamped K fan limit l ls xs hs
    stamped =
        let s = (make K fan limit l ls xs hs).after in
        let small : s.head.stamp < 2 ^ 64 = (let z = one_at_make in omega arith) in
        record {
          first = one_at_make;
          counts = λ cs. counts K (finally (cursor_step K) s cs) (still_small K s small cs);
          across = λ cs k. across_after s (made_row limit l) (made K ok fan limit l ls xs hs words given) small cs k;
        }
