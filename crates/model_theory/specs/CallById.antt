-- Every call of a list, on a sound state: its answer is the row's, and what it leaves is sound and stands for what the row becomes. A call that gives
-- too many line ends changes neither; any other leaves a coherent state with the row's entries, none of which has too many, or crossed bounds.
use Rattle.std.specs.Prelude.{◌≡◌, refl, Bool, true, false, cond, ◌<◌}
use Rattle.std.proofs.Common.{ap₂, subst}
use Rattle.model.specs.declared.shape.Kind.{Kind}
use Rattle.model.specs.State.{State}
use Rattle.model.specs.Row as row
use Rattle.model.specs.Row.{Row, Call, moved, refused, overlong, row_move, row_step}
use Rattle.model.specs.ById.{tree_move, tree_step}
use Rattle.model.specs.Sound.{Coherent}
use Rattle.model.specs.Promise.{InWords, Represents}
use Rattle.model_theory.specs.CallSimulates.{Simulates, Mirrors, row_of, own}
use Rattle.model_theory.specs.RowLines.{move_few, represents_few}
use Rattle.model_theory.specs.RowBounds.{move_level, represents_level, represents_of}
use Rattle.model_theory.specs.CallMake.{step_reset}
use Rattle.model_theory.specs.CallRead.{step_count, step_lengths, step_rank, step_first, step_next}
use Rattle.model_theory.specs.CallCompare.{step_compare}
use Rattle.model_theory.specs.CallLookup.{step_lookup}
use Rattle.model_theory.specs.CallResize.{step_set, step_update}
use Rattle.model_theory.specs.CallInsert.{step_insert}
use Rattle.model_theory.specs.CallSplit.{step_split}

own_step : (K : Kind) (ok : K.effect < K.views) (t : State) → Coherent K t → (c : Call) → overlong K c ≡ false → InWords K c → Simulates (Mirrors K) (tree_move K t c) (row_move K (row_of K t) c)
unfolding tree_move row_move
own_step K ok t w (row.reset l) o h = step_reset K t w l o h
own_step K ok t w (row.insert i l) o h = step_insert K ok t w i l h.1.long o
own_step K ok t w (row.split flag i l) o h = step_split K t w flag i l h.1.long o
own_step K ok t w (row.set_lengths i l) o h = step_set K ok t w i l h.1.long o
own_step K ok t w (row.update i l) o h = step_update K ok t w i l h.1.long o
own_step K ok t w (row.lookup v x) o h = step_lookup K ok t w v h.0 x
own_step K ok t w (row.rank v i) o h = step_rank K t w v h.0 i
own_step K ok t w (row.next i) o h = step_next K t w i
own_step K ok t w (row.compare i j) o h = step_compare K t w i j
own_step K ok t w (row.lengths i) o h = step_lengths K t w i
own_step K ok t w row.count o h = step_count K t w
own_step K ok t w row.first o h = step_first K t w
own_step K ok t w row.malformed o h = record { same = refl; kept = own K t w }

pub step : (K : Kind) (ok : K.effect < K.views) (t : State) (r : Row) → Represents K t r → (c : Call) → InWords K c → Simulates (Represents K) (tree_step K t c) (row_step K r c)
unfolding tree_step row_step
step K ok t r h c k = go (overlong K c) refl
  where
    go : (b : Bool) → overlong K c ≡ b
        → Simulates (Represents K) (cond b (moved t (refused 10)) (tree_move K t c)) (cond b (moved r (refused 10)) (row_move K r c))
    go true o = record { same = refl; kept = h }
    go false o =
        let a : Simulates (Mirrors K) (tree_move K t c) (row_move K r c) = subst (λ (q : Row). Simulates (Mirrors K) (tree_move K t c) (row_move K q c)) (ap₂ row.row h.limit h.entries) (own_step K ok t h.sound.coherent c o k) in
        record { same = a.same; kept = represents_of K (tree_move K t c).after (row_move K r c).after a.kept (move_few K r c o (represents_few K t r h)) (move_level K r c (represents_level K t r h)) }
