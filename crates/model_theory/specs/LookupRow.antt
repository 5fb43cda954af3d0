-- What lookups count on a state that stands for a row: the paper's number, within its bounds, where the row has the position, else nothing.
use Rattle.std.specs.Prelude.{◌≡◌, ◌⊎◌, [], ℕ, ◌≤◌, ◌<◌, Ok, None}
use Rattle.std.proofs.Common.{sym, ap, ◌∙◌, subst, inl, inr, arith}
use Rattle.model.specs.Kind.{stride}
use Rattle.model.specs.declared.shape.Kind.{Kind}
use Rattle.model.specs.Lists.{refusal}
use Rattle.model.specs.State.{State}
use Rattle.model.specs.Locate.{served_by, from_root}
use Rattle.model.specs.Row as row
use Rattle.model.specs.Row.{Row, Entry}
use Rattle.model.specs.Sound.{shape_in, Coherent, entries_of}
use Rattle.model.specs.Refuse.{opening}
use Rattle.model.specs.Examined.{from_top, held_slots, looked_slots, look_slots, Examines}
use Rattle.model.specs.Promise.{Represents}
use Rattle.model_theory.specs.LiftSound.{sound_of}
use Rattle.model_theory.specs.CallOpen.{passed, opens}
use Rattle.model_theory.specs.WalkLookup.{Got, served_by_is, searched, root_miss}
use Rattle.model_theory.specs.CallLookup.{total_is, below_total}
use Rattle.model_theory.specs.LookupExamined.{look_far}

module _ (K : Kind) (ok : K.effect < K.views) (t : State) (w : Coherent K t) (v : ℕ) (lv : v < K.views) (x : ℕ) where
  lost : row.total v (entries_of K t) ≤ x → look_slots K t v x ≡ 0
  unfolding look_slots opening refusal searched
  lost le = passed (opening K t) (λ n. 0) _ (opens K t w []) ∙ go (served_by_is (stride K) K.effect t w v t.head.finger (sound_of (stride K) t K.effect w).finger x)
    where
      go : Got (stride K) K.effect t v x (served_by v K.effect (shape_in (stride K) t) t.head.finger t.head.leaves x t.leaves) ⊎ (served_by v K.effect (shape_in (stride K) t) t.head.finger t.head.leaves x t.leaves ≡ Ok None)
          → looked_slots (served_by v K.effect (shape_in (stride K) t) t.head.finger t.head.leaves x t.leaves) (held_slots v K.effect (shape_in (stride K) t) t.head.finger t.head.leaves x t.leaves)
          (from_root v K.effect (shape_in (stride K) t) t.head.levels t.head.root.0 t.head.leaves x t.leaves t.inners) (from_top K t v x) ≡ 0
      go (inl g) = absurd (omega (arith, below_total K ok t w v lv x g.finger g.offset g.looked))
      go (inr q) = rw (q, root_miss (stride K) K.effect t w v x (omega (arith, total_is K ok t w v lv)))

pub examines_are : (K : Kind) → K.effect < K.views → (s : State) (r : Row) → Represents K s r → (v x : ℕ) → v < K.views → Examines K s v x r
examines_are K ok s r h v x lv =
    let e : row.total v r.entries ≡ row.total v (entries_of K s) = ap (row.total v) (sym h.entries) in
    record {
      far = λ lt. look_far K s h.sound.coherent v x (subst (λ (n : ℕ). x < n) (e ∙ total_is K ok s h.sound.coherent v lv) lt);
      refused = λ le. lost K ok s h.sound.coherent v lv x (subst (λ (n : ℕ). n ≤ x) e le);
    }
