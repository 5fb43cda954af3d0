-- The reading copy gives the effect answers of the full tree (document 02, CR 12): for every list of its calls, begun by a make that neither refuses,
-- provided that the full tree refuses no call on account of another length and the reading copy none by 17. Both trees answer as their rows, and the
-- rows agree call by call.
use Rattle.std.specs.Prelude.{◌≡◌, refl, ◌≢◌, false, ℕ, ◌<◌, Ok, true}
use Rattle.std.proofs.Common.{sym, ap, ap₂, ◌∙◌, subst, arith}
use mathlib.Core.List.{List, [], ◌∷◌, map}
use Rattle.model.specs.Kind.{reading}
use Rattle.model.specs.declared.shape.Kind.{Kind}
use Rattle.model.specs.Lists.{All}
use Rattle.model.specs.State.{State}
use Rattle.model.specs.Row as row
use Rattle.model.specs.Row.{Row, Entry, Call, Answer, Moved, made_row, row_step}
use Rattle.model.specs.ById.{tree_step}
use Rattle.model.specs.Calls.{make}
use Rattle.model.specs.Sound.{Sound, entries_of}
use Rattle.model.specs.Audit.{audit}
use Rattle.model.specs.Promise.{Words, InWords, Represents, answers, finally, Demand3}
use Rattle.model.specs.Reading.{Reads, effect_of, here, effect_part, Other, ProvidedOf, Provided, Agreement}
use Rattle.model_theory.specs.RowViews.{each_small}
use Rattle.model_theory.specs.CallSimulates.{Simulates}
use Rattle.model_theory.specs.CallById.{step}
use Rattle.model_theory.specs.TopById.{made, runs_alike, demand3}
use Rattle.model_theory.specs.AuditExactly.{audit_exactly}
use Rattle.model_theory.specs.ReadingRows.{Alike, new_like, RowsAlike}
use Rattle.model_theory.specs.ReadingCalls.{here_moves, step_alike, elsewhere}

-- the reading copy's only view
one : reading.effect < reading.views
one = omega arith

module _ (K : Kind) (ok : K.effect < K.views) (plain : K.ordered ≡ false) where
  -- lists of calls: the same effect answers, and rows alike behind them
  pub rows_agree : (r q : Row) → RowsAlike K ok r q → (cs : List Call) → All (InWords K) cs → All (Reads K) cs → ProvidedOf K (row_step K) (λ (z : Row). z.entries) (row_step reading) r q cs
      → (map effect_part (answers (row_step reading) q (map (here K) cs)) ≡ map effect_part (answers (row_step K) r cs)) × RowsAlike K ok (finally (row_step K) r cs)
      (finally (row_step reading) q (map (here K) cs))
  unfolding answers finally All ProvidedOf
  rows_agree r q h [] k d p = (refl, h)
  rows_agree r q h (c ∷ cs) k d p =
      let s = step_alike K ok plain r q h c k.0 d.0 p.0 p.1 in
      let i = rows_agree (row_step K r c).after (row_step reading q (here K c)).after s.after cs k.1 d.1 p.2 in
      (ap₂ ◌∷◌ (sym s.answer) i.0, i.1)

  -- trees --------------------------------------------------------------------------------------------------------------------------------------

  pub words_here : (l : List ℕ) → Words K l → Words reading (effect_of K l)
  unfolding All
  words_here l w = record { long = refl; small = (each_small 4294967296 l (omega arith) w.small K.effect, tt) }

  in_words : (c : Call) → InWords K c → Reads K c → InWords reading (here K c)
  in_words (row.reset l) w d = words_here l w
  in_words (row.insert i l) w d = (w.0, words_here l w.1)
  in_words (row.split flag i l) w d = (w.0, words_here l w.1)
  in_words (row.set_lengths i l) w d = (w.0, words_here l w.1)
  in_words (row.lookup v x) w d = (omega arith, w.1)
  in_words (row.rank v i) w d = (omega arith, w.1)
  in_words (row.next i) w d = w
  in_words (row.compare i j) w d = w
  in_words (row.update i l) w d = absurd d
  in_words (row.lengths i) w d = absurd d
  in_words row.count w d = absurd d
  in_words row.first w d = absurd d
  in_words row.malformed w d = absurd d

  pub all_in_words : (cs : List Call) → All (InWords K) cs → All (Reads K) cs → All (InWords reading) (map (here K) cs)
  unfolding All
  all_in_words [] w d = tt
  all_in_words (c ∷ cs) w d = (in_words c w.0 d.0, all_in_words cs w.1 d.1)

  -- the proviso is the same of the trees and of their rows
  pub on_rows : (s t : State) (r q : Row) → Represents K s r → Represents reading t q → (cs : List Call) → All (InWords K) cs → All (Reads K) cs
      → Provided K s t cs
      → ProvidedOf K (row_step K) (λ (z : Row). z.entries) (row_step reading) r q cs
  unfolding ProvidedOf All
  on_rows s t r q a b [] k d p = tt
  on_rows s t r q a b (c ∷ cs) k d p =
      let f : Simulates (Represents K) (tree_step K s c) (row_step K r c) = step K ok s r a c k.0 in
      let g : Simulates (Represents reading) (tree_step reading t (here K c)) (row_step reading q (here K c)) = step reading one t q b (here K c) (in_words c k.0 d.0) in (
        (λ o. p.0 (subst (λ (es : List Entry). Other K es c (tree_step K s c).answer.number) (sym a.entries) (subst (λ (n : Answer). Other K r.entries c n.number) (sym f.same) o))),
        (λ e. p.1 (ap (λ (n : Answer). n.number) g.same ∙ e)),
        on_rows (tree_step K s c).after (tree_step reading t (here K c)).after (row_step K r c).after (row_step reading q (here K c)).after f.kept g.kept cs k.1 d.1 p.2,
      )

  pub on_trees : (s t : State) (r q : Row) → Represents K s r → Represents reading t q → (cs : List Call) → All (InWords K) cs → All (Reads K) cs
      → ProvidedOf K (row_step K) (λ (z : Row). z.entries) (row_step reading) r q cs → Provided K s t cs
  unfolding ProvidedOf All
  on_trees s t r q a b [] k d p = tt
  on_trees s t r q a b (c ∷ cs) k d p =
      let f : Simulates (Represents K) (tree_step K s c) (row_step K r c) = step K ok s r a c k.0 in
      let g : Simulates (Represents reading) (tree_step reading t (here K c)) (row_step reading q (here K c)) = step reading one t q b (here K c) (in_words c k.0 d.0) in (
        (λ o. p.0 (subst (λ (es : List Entry). Other K es c (row_step K r c).answer.number) a.entries (subst (λ (n : Answer). Other K (entries_of K s) c n.number) f.same o))),
        (λ e. p.1 (sym (ap (λ (n : Answer). n.number) g.same) ∙ e)),
        on_trees (tree_step K s c).after (tree_step reading t (here K c)).after (row_step K r c).after (row_step reading q (here K c)).after f.kept g.kept cs k.1 d.1 p.2,
      )

  agreement_of : (s t : State) (r q : Row) → Represents K s r → Represents reading t q → RowsAlike K ok r q → Agreement K s t
  agreement_of s t r q a b h = record {
    agrees = λ cs k d p. ap (map effect_part) (runs_alike reading one t q (map (here K) cs) b (all_in_words cs k d)).0 ∙ (rows_agree r q h cs k d (on_rows s t r q a b cs k d p)).0
        ∙ sym (ap (map effect_part) (runs_alike K ok s r cs a k).0);
    weakest = λ cs k d p c kc dc o.
        let x = (runs_alike K ok s r cs a k).1 in
        let y = (runs_alike reading one t q (map (here K) cs) b (all_in_words cs k d)).1 in
        let z = (rows_agree r q h cs k d (on_rows s t r q a b cs k d p)).1 in
        last (finally (tree_step K) s cs) (finally (tree_step reading) t (map (here K) cs)) (finally (row_step K) r cs) (finally (row_step reading) q (map (here K) cs)) x y z c kc dc o;
  }
    where
      last : (s t : State) (r q : Row) → Represents K s r → Represents reading t q → RowsAlike K ok r q → (c : Call) → InWords K c → Reads K c → Other K (entries_of K s) c (tree_step K s c).answer.number
          → (tree_step reading t (here K c)).answer.number ≢ (tree_step K s c).answer.number
      last s t r q a b h c k d o e =
          elsewhere K ok plain r q h c k d (tree_step K s c).answer.number (subst (λ (es : List Entry). Other K es c (tree_step K s c).answer.number) a.entries o)
          (sym (ap (λ (m : Moved Row). m.answer.number) (here_moves K q c)) ∙ sym (ap (λ (n : Answer). n.number) (step reading one t q b (here K c) (in_words c k d)).same) ∙ e)

-- each on areas of its own, which held anything
pub agreement : (K : Kind) → K.effect < K.views → K.ordered ≡ false → (fan limit : ℕ) (l ls xs hs us ys gs : List ℕ) → Words K l → (make K fan limit l ls xs hs).answer ≡ Ok tt
    → (make reading fan limit (effect_of K l) us ys gs).answer ≡ Ok tt
    → Agreement K (make K fan limit l ls xs hs).after (make reading fan limit (effect_of K l) us ys gs).after
unfolding Alike
agreement K ok plain fan limit l ls xs hs us ys gs small there here' =
    agreement_of K ok plain _ _ (made_row limit l) (made_row limit (effect_of K l)) (made K ok fan limit l ls xs hs small there)
    (made reading one fan limit (effect_of K l) us ys gs (words_here K ok plain l small) here')
    (record { limit = refl; entries = (new_like K ok 0 0 l refl small.long, tt) })

-- the list theorem at the reading copy's kind, and what audit says there
pub reading_whole : (fan limit : ℕ) (l ls xs hs : List ℕ) → Words reading l → (make reading fan limit l ls xs hs).answer ≡ Ok tt → Demand3 reading fan limit l ls xs hs
reading_whole = demand3 reading one

pub reading_audited : (t : State) → (audit reading t ≡ Ok true → Sound reading t) × (Sound reading t → audit reading t ≡ Ok true)
reading_audited = audit_exactly reading
