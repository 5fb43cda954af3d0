-- The reading copy (document 02, CR 12): a tree of one length per slot, the effect length, and what is promised of it beside the full tree.
-- The theorem is model_theory's. Assumes nothing.
use Rattle.std.specs.Prelude.{◌≡◌, ◌≢◌, ◌⊎◌, List, [], ◌∷◌, map, ℕ, ◌≤◌, length, get_or, take}
use Rattle.model.specs.Lists.{All}
use Rattle.model.specs.Kind.{reading}
use Rattle.model.specs.declared.shape.Kind.{Kind}
use Rattle.model.specs.State.{State}
use Rattle.model.specs.Row as row
use Rattle.model.specs.Row.{Entry, entry, Call, Answer, Moved, total}
use Rattle.model.specs.ById.{tree_step}
use Rattle.model.specs.Sound.{entries_of}
use Rattle.model.specs.Promise.{InWords, answers, finally}

-- the calls that it has beside make, as the full tree of kind K gets them: lookups and ranks in the effect view
abbrev pub Reads : Kind → Call → Type 0
Reads K (row.reset l) = Unit {0}
Reads K (row.insert i l) = Unit {0}
Reads K (row.split flag i l) = Unit {0}
Reads K (row.set_lengths i l) = Unit {0}
Reads K (row.lookup v index) = v ≡ K.effect
Reads K (row.rank v i) = v ≡ K.effect
Reads K (row.next i) = Unit {0}
Reads K (row.compare i j) = Unit {0}
Reads K (row.update i l) = ⊥
Reads K (row.lengths i) = ⊥
Reads K row.count = ⊥
Reads K row.first = ⊥
Reads K row.malformed = ⊥

-- the effect length alone
abbrev pub effect_of : Kind → List ℕ → List ℕ
effect_of K l = get_or l K.effect 0 ∷ []

-- the same call of the reading copy
abbrev pub here : Kind → Call → Call
here K (row.reset l) = row.reset (effect_of K l)
here K (row.insert i l) = row.insert i (effect_of K l)
here K (row.split flag i l) = row.split flag i (effect_of K l)
here K (row.set_lengths i l) = row.set_lengths i (effect_of K l)
here K (row.lookup v index) = row.lookup 0 index
here K (row.rank v i) = row.rank 0 i
here K (row.next i) = row.next i
here K (row.compare i j) = row.compare i j
here K (row.update i l) = row.update i (effect_of K l)
here K (row.lengths i) = row.lengths i
here K row.count = row.count
here K row.first = row.first
here K row.malformed = row.malformed

-- an answer without a lookup's fourth value, the prepare position, which the reading copy doesn't have
abbrev pub effect_part : Answer → Answer
effect_part a = record { number = a.number; values = take 3 a.values }

-- the effect length gives no cause to refuse the call by 6 or 7, where these are the entries
abbrev pub EffectFits : Kind → List Entry → Call → Type 0
EffectFits K es (row.insert i l) = total K.effect (row.inserted i (entry (length es) l) es) ≤ 4294967295
EffectFits K es (row.split flag i l) = get_or l K.effect 0 ≤ get_or (row.lengths_of i es) K.effect 0
EffectFits K es (row.set_lengths i l) = total K.effect (row.changed i l es) ≤ 4294967295
EffectFits K es (row.update i l) = total K.effect (row.changed i l es) ≤ 4294967295
EffectFits K es (row.reset l) = Unit {0}
EffectFits K es (row.lookup v index) = Unit {0}
EffectFits K es (row.rank v i) = Unit {0}
EffectFits K es (row.next i) = Unit {0}
EffectFits K es (row.compare i j) = Unit {0}
EffectFits K es (row.lengths i) = Unit {0}
EffectFits K es row.count = Unit {0}
EffectFits K es row.first = Unit {0}
EffectFits K es row.malformed = Unit {0}

-- the call gets the number n on account of another length: 10, which is for line ends, or 6 or 7 where the effect length gives no cause
abbrev pub Other : Kind → List Entry → Call → ℕ → Type 0
Other K es c n = (n ≡ 10) ⊎ (((n ≡ 6) ⊎ (n ≡ 7)) × EffectFits K es c)

-- read call by call, on what the calls before it left: none is refused there on account of another length, and none here by 17
module _ (K : Kind) {S T : Type 0} (there : S → Call → Moved S) (entries : S → List Entry) (copy : T → Call → Moved T) where
  unfoldable pub ProvidedOf : S → T → List Call → Type 0
  ProvidedOf s t [] = Unit {0}
  ProvidedOf s t (c ∷ cs) =
      (Other K (entries s) c (there s c).answer.number → ⊥)
      × ((copy t (here K c)).answer.number ≢ 17)
      × ProvidedOf (there s c).after (copy t (here K c)).after cs

abbrev pub Provided : Kind → State → State → List Call → Type 0
Provided K s t cs = ProvidedOf K (tree_step K) (entries_of K) (tree_step reading) s t cs

-- the reading copy t beside the tree s of kind K, the full one without seats, each as its make left it
pub record Agreement (K : Kind) (s t : State) : Type 0 where
  -- it gives the effect answers of the full tree
  pub agrees : (cs : List Call) → All (InWords K) cs → All (Reads K) cs → Provided K s t cs
      → map effect_part (answers (tree_step reading) t (map (here K) cs)) ≡ map effect_part (answers (tree_step K) s cs)
  -- the proviso is the weakest: a call that behind such a list is refused there on account of another length never gets that number here
  pub weakest : (cs : List Call) → All (InWords K) cs → All (Reads K) cs → Provided K s t cs → (c : Call) → InWords K c → Reads K c
      → Other K (entries_of K (finally (tree_step K) s cs)) c (tree_step K (finally (tree_step K) s cs) c).answer.number
      → (tree_step reading (finally (tree_step reading) t (map (here K) cs)) (here K c)).answer.number ≢ (tree_step K (finally (tree_step K) s cs) c).answer.number
