-- Repair on trees of one entry, fan 4 and limit 5. Four stale words, in a leaf's parent, an unused slot, a sum and a home, are put right, and the answer is
-- 4; a finger goes and changes no word. Trusted words of no sound tree give 21: a wrong id, too many line ends, no level or sixteen, a count above the
-- limit, one node at two depths. So the premises of `repairs` are met on either side.
use Rattle.model.specs.Numbered.{Numbered}
use Rattle.std.specs.Prelude.{◌≡◌, refl, ℕ, zero, suc, ◌<◌, set, replicate, Ok, Err, Some, None, true}
use Rattle.std.proofs.Common.{ap, arith}
use mathlib.Core.List.{[], ◌∷◌, map, flat_map}
use Rattle.model.specs.Kind.{base}
use Rattle.model.specs.Lists.{part, put_at, sum_by, range, times, refusal}
use Rattle.model.specs.Node.{child, used, slots_from, node_of, words_of, empty_slot}
use Rattle.model.specs.State.{State, state, head_of}
use Rattle.model.specs.Place.{with_finger}
use Rattle.model.specs.Sound.{level, until, leaf_in, inner_in}
use Rattle.model.specs.Answer.{number_answer}
use Rattle.model.specs.Calls.{Reply, begun, reply}
use Rattle.model.specs.Seats.{Fair, is_fair, no_seats}
use Rattle.model.specs.Audit as check
use Rattle.model.specs.Audit.{audit}
use Rattle.model.specs.declared.head.Finger.{Finger}
use Rattle.model.specs.Mend.{holder, depth_from, fresh, put_all, put_each, deep, mend, is_fit}
use Rattle.model.specs.Repair.{Agrees, Agreeing, Mends, differ, changes, sizes_in, repair_if, repair}
use Rattle.model_theory.specs.AuditExactly.{audit_exactly}
use Rattle.model_theory.specs.RepairExactly.{repairs}

abbrev tree : State
tree = begun base 4 5 1 (3 ∷ 3 ∷ 1 ∷ []) (replicate 38 0) (replicate 38 0) (replicate 5 0)

-- a head like the tree's, but for its levels and entries
abbrev under : ℕ → ℕ → State
under levels entries = state (head_of 4 5 0 levels 1 1 entries 1 None) tree.leaves tree.inners tree.homes

abbrev stale : State
stale = state tree.head (set (set tree.leaves 1 7) 8 6) (set tree.inners 4 9) (set tree.homes 0 5)

stale_right : repair base stale no_seats ≡ reply tree (Ok 4)
unfolding repair_if is_fair changes is_fit mend put_all put_each deep holder depth_from fresh differ begun refusal check.every level until times range flat_map part put_at sum_by slots_from node_of words_of empty_slot
stale_right = refl

-- the same tree after a lookup at its first position
abbrev finger : Finger
finger = record { view = 0; leaf = 0; start = 0; effect = 0; slot = 0; within = 0; effect_within = 0; prepare = 0; prepare_within = 0 }

abbrev fingered : State
fingered = state (with_finger (Some finger) tree.head) tree.leaves tree.inners tree.homes

fingered_right : repair base fingered no_seats ≡ reply tree (Ok 0)
unfolding repair_if is_fair changes is_fit mend put_all put_each deep holder depth_from fresh differ begun refusal check.every level until times range flat_map part put_at sum_by slots_from node_of words_of empty_slot
fingered_right = refl

-- trusted words of no sound tree
abbrev Refused21 : State → Type 0
Refused21 t = repair base t no_seats ≡ reply t (Err 21)

abbrev strange : State
strange = state tree.head (set tree.leaves 3 1) (set tree.inners 4 9) tree.homes

-- a wrong id, too many line ends, no level, sixteen levels, node 0 below itself, more entries than the limit
refused : Refused21 strange × Refused21 (state tree.head (set tree.leaves 6 65536) tree.inners tree.homes) × Refused21 (under 0 1) × Refused21 (under 16 1) × Refused21 (under 2 1) × Refused21 (under 1 6)
unfolding repair_if is_fair changes is_fit mend put_all put_each deep holder depth_from fresh differ begun refusal check.every level until times range flat_map part put_at sum_by slots_from node_of words_of empty_slot
refused = (refl, refl, refl, refl, refl, refl)

-- the premises of `repairs`: no sound tree agrees with the first of these; the tree agrees with the stale one, and is sound
none_agrees : Agreeing base strange no_seats → ⊥
none_agrees = (repairs base strange no_seats).exactly (ap (λ (r : Reply (Numbered ℕ)). (number_answer r.answer).number) refused.0)

yes : audit base tree ≡ Ok true
unfolding begun refusal part put_at sum_by range node_of slots_from words_of empty_slot flat_map check.every check.depth check.is_filled check.is_held check.is_child check.is_inner check.is_entry check.is_leaf check.is_sound audit
yes = refl

lone : (Q : ℕ → Type 0) → Q 0 → (k : ℕ) → k < 1 → Q k
lone Q q zero h = q
lone Q q (suc k) h = absurd (omega arith)

same : Agrees 4 stale tree
unfolding begun part put_at slots_from node_of words_of empty_slot flat_map
same = record {
  head = refl;
  leaf_len = lone (λ k. (leaf_in 4 tree k).len ≡ (leaf_in 4 stale k).len) refl;
  leaf_slots_law = lone (λ k. used (leaf_in 4 tree k) ≡ used (leaf_in 4 stale k)) refl;
  inner_len = lone (λ k. (inner_in 4 tree k).len ≡ (inner_in 4 stale k).len) refl;
  inner_children = lone (λ k. map child (used (inner_in 4 tree k)) ≡ map child (used (inner_in 4 stale k))) refl;
}

-- a tree without seats has fair ones
fair : Fair tree.head.limit tree.head.entries no_seats
fair e = absurd (let z : ◌≡◌ {A = ℕ} 0 1 = cc in omega arith)

agreeing : Agreeing base stale no_seats
agreeing = record { tree = tree; seats = no_seats; sound = (audit_exactly base tree).0 yes; fair = fair; agrees = same; seated = refl }

opens : sizes_in base stale ≡ 0
unfolding begun refusal part put_at words_of empty_slot flat_map
opens = refl

mended : Mends base stale no_seats (repair base stale no_seats).after
mended = (repairs base stale no_seats).mended opens agreeing

unchanged : repair base tree no_seats ≡ reply tree (Ok 0)
unfolding begun
unchanged = (repairs base tree no_seats).sound ((audit_exactly base tree).0 yes) fair
