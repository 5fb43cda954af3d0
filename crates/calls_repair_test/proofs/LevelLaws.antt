-- The levels of inner nodes noted one after the other: what a level that could be noted leaves, and one turn over the levels. Assumes nothing.
use mathlib.Core.Path.{◌≡◌, refl, sym, ap, subst, ◌∙◌}
use mathlib.Core.Bool.{Bool, true, false, cond, ◌&&◌}
use mathlib.Core.List.{List, [], ◌∷◌, ◌++◌, flat_map}
use Prim.Native.Nat.{ℕ, suc, ◌+◌, ◌-◌, ◌<◌, ◌≤◌}
use native.Mathlib.Numerals.{add-one}
use native.Mathlib.Omega.{arith}
use lib.ListN.{length, get_or, set, length-set}
use lib.Dec.{ltb, eqb}
use borrow.Author.Tests.{ltb-true}
use Rattle.model.specs.Lists.{All, part, put_at, range}
use Rattle.model.specs.declared.shape.Shape.{Shape}
use Rattle.model_laws.specs.Lists.{all_at_at, and_true}
use Rattle.model_laws.specs.Words.{get_d_part, length_part, part_none, part_front, part_same, put_none, put_next, set_put}
use Rattle.calls_repair_test.specs.Queue.{Queue, queue, noted, noted_all, level_in, Parents, Lens, Last}
use Rattle.calls_repair_test.proofs.QueueLaws.{stays, stop, go_on, in_two, all_sizes}

pub never : {X : Type 0} (b : Bool) → b ≡ false → b ≡ true → X
never b e q = absurd (let z : ◌≡◌ {A = ℕ} 0 1 = cc in omega arith)

-- a list that could be noted whole --------------------------------------------------------------------------------------------------------------

-- it stands in the queue from place k on, and each of its numbers is below n
pub record LevelFull (n most k cnt : ℕ) (cs os os' : List ℕ) : Type 0 where
  pub count : cnt ≡ k + length cs
  pub within : cnt ≤ most
  pub order : os' ≡ put_at k cs os
  pub below : All (λ c. c < n) cs

abbrev pub test : ℕ → ℕ → ℕ → ℕ → List ℕ → Bool
test n most c k ms = ltb c n && eqb (get_or ms c 0) 0 && ltb k most

pub noted_is : (n most c k : ℕ) (os ms : List ℕ) → noted n most c (queue true k os ms) ≡ cond (test n most c k ms) (queue true (k + 1) (set os k c) (set ms c 1)) (queue false k os ms)
unfolding noted
noted_is n most c k os ms = refl

pub full : (n most k cnt : ℕ) (cs os ms os' ms' : List ℕ) → k ≤ most → most ≤ length os → queue true cnt os' ms' ≡ noted_all n most cs (queue true k os ms) → LevelFull n most k cnt cs os os'
unfolding noted_all All
full n most k cnt [] os ms os' ms' h l e =
    let a : cnt ≡ k = ap (λ (q : Queue). q.count) e in
    record { count = omega arith; within = omega arith; order = ap (λ (q : Queue). q.order) e ∙ sym (put_none k os); below = tt }
full n most k cnt (c ∷ cs) os ms os' ms' h l e =
    go (test n most c k ms) refl (λ (m : k + 1 ≤ most) w. full n most (k + 1) cnt cs (set os k c) (set ms c 1) os' ms' m (omega (arith, length-set os k c)) w)
    (e ∙ ap (noted_all n most cs) (noted_is n most c k os ms))
  where
    go : (b : Bool) → test n most c k ms ≡ b
        → (k + 1 ≤ most → queue true cnt os' ms' ≡ noted_all n most cs (queue true (k + 1) (set os k c) (set ms c 1)) → LevelFull n most (k + 1) cnt cs (set os k c) os')
        → queue true cnt os' ms' ≡ noted_all n most cs (cond b (queue true (k + 1) (set os k c) (set ms c 1)) (queue false k os ms)) → LevelFull n most k cnt (c ∷ cs) os os'
    go true q f w =
        let a = and_true (ltb c n && eqb (get_or ms c 0) 0) (ltb k most) q in
        let b = and_true (ltb c n) (eqb (get_or ms c 0) 0) a.0 in
        let m : k < most = ltb-true k most a.1 in
        let r : LevelFull n most (k + 1) cnt cs (set os k c) os' = f (omega arith) w in
        record {
          count = omega (arith, r.count);
          within = r.within;
          order = r.order ∙ ap (put_at (k + 1) cs) (set_put k c os (omega arith)) ∙ put_next k (k + 1) (c ∷ []) cs os (omega arith) (omega (arith, r.count, r.within));
          below = (ltb-true c n b.0, r.below);
        }
    go false q f w = never true (ap (λ (z : Queue). z.ok) (w ∙ stays n most k cs os ms)) refl

-- levels -----------------------------------------------------------------------------------------------------------------------------------------

level_on : (f : ℕ → List ℕ) (d n : ℕ) → flat_map f (range d (suc n)) ≡ f d ++ flat_map f (range (suc d) n)
unfolding flat_map range
level_on f d n = refl

none_left : (f : ℕ → List ℕ) (n most d : ℕ) (q : Queue) → noted_all n most (flat_map f (range d 0)) q ≡ q
unfolding flat_map range noted_all
none_left f n most d q = refl

-- the nodes of a part of the queue that are in use may be parents
pub parents_of : (g : Shape) (n start end : ℕ) (inners os ks : List ℕ) → Lens g n inners → start ≤ end → end ≤ length os → part start (end - start) os ≡ ks → All (λ k. k < n) ks
    → Parents g inners start end os
parents_of g n start end inners os ks w h l e a j lo hi =
    let p : length (part start (end - start) os) ≡ end - start = length_part start (end - start) os (omega arith) in
    let s : start + (j - start) ≡ j = omega arith in
    let r : get_or ks (j - start) 0 ≡ get_or os j 0 = ap (λ (z : List ℕ). get_or z (j - start) 0) (sym e) ∙ get_d_part start (end - start) (j - start) os (omega arith) ∙ ap (λ (i : ℕ). get_or os i 0) s in
    let b : get_or os j 0 < n = subst (λ (k : ℕ). k < n) r (all_at_at (λ k. k < n) (j - start) 0 ks (omega (arith, p, ap length e)) a) in
    (omega (arith, b, w.count), w.most (get_or os j 0) b)

module _ (kids : ℕ → List ℕ) (root n levels : ℕ) (os₀ ms₀ : List ℕ) where
  abbrev lev : ℕ → List ℕ
  lev d = level_in kids root d

  abbrev whole : Queue
  whole = noted_all n n (flat_map (level_in kids root) (range 1 (levels - 1))) (queue true 1 os₀ ms₀)

  -- the state of the loop: the levels from d on are left; level d - 1 stands in the queue from start up to end
  pub record Deep (d start end : ℕ) (os ms : List ℕ) : Type 0 where
    pub low : 1 ≤ d
    pub high : d ≤ levels
    pub sorted : start ≤ end
    pub within : end ≤ n
    pub orders : length os ≡ length os₀
    pub marked : length ms ≡ length ms₀
    pub last : part start (end - start) os ≡ lev (d - 1)
    pub small : All (λ k. k < n) (lev (d - 1))
    pub rest : noted_all n n (flat_map (level_in kids root) (range d (levels - d))) (queue true end os ms) ≡ whole

  first_level : (k : ℕ) → k ≡ root → k ∷ [] ≡ lev 0
  unfolding level_in
  first_level k e = ap (λ (x : ℕ). x ∷ []) e

  root_small : root < n → All (λ k. k < n) (lev 0)
  unfolding level_in All
  root_small h = (h, tt)

  next_level : (d : ℕ) → flat_map kids (lev d) ≡ lev (suc d)
  unfolding level_in
  next_level d = refl

  pub start_deep : 1 ≤ levels → 1 ≤ n → n ≤ length os₀ → root < n → root ≡ get_or os₀ 0 0 → Deep 1 0 1 os₀ ms₀
  start_deep hl hn ho hr er = record {
    low = omega arith;
    high = hl;
    sorted = omega arith;
    within = hn;
    orders = refl;
    marked = refl;
    last = part_front 0 0 os₀ (omega arith) ∙ ap (λ (l : List ℕ). get_or os₀ 0 0 ∷ l) (part_none 1 os₀) ∙ first_level (get_or os₀ 0 0) (sym er);
    small = root_small hr;
    rest = refl;
  }

  module _ (d start end : ℕ) (os ms : List ℕ) (w : Deep d start end os ms) (l : d < levels) (room : n ≤ length os₀) (cnt : ℕ) (b : Bool) (os' ms' : List ℕ)
      (e : queue b cnt os' ms' ≡ noted_all n n (flat_map kids (part start (end - start) os)) (queue true end os ms))
    where
      level_is : flat_map kids (part start (end - start) os) ≡ lev d
      level_is =
          let q : suc (d - 1) ≡ d = omega (arith, w.low) in
          ap (flat_map kids) w.last ∙ next_level (d - 1) ∙ ap (level_in kids root) q

      noted_level : queue b cnt os' ms' ≡ noted_all n n (lev d) (queue true end os ms)
      noted_level = e ∙ ap (λ (z : List ℕ). noted_all n n z (queue true end os ms)) level_is

      then : noted_all n n (flat_map (level_in kids root) (range (suc d) (levels - suc d))) (queue b cnt os' ms') ≡ whole
      then =
          let q : levels - d ≡ suc (levels - suc d) = omega arith in
          ap (noted_all n n (flat_map (level_in kids root) (range (suc d) (levels - suc d)))) noted_level
          ∙ sym (in_two n n (lev d) (flat_map (level_in kids root) (range (suc d) (levels - suc d))) (queue true end os ms))
          ∙ ap (λ (z : List ℕ). noted_all n n z (queue true end os ms)) (sym (level_on (level_in kids root) d (levels - suc d)) ∙ ap (λ (k : ℕ). flat_map (level_in kids root) (range d k)) (sym q))
          ∙ w.rest

      pub deep_stop : b ≡ false → queue b cnt os' ms' ≡ whole
      deep_stop q = stop n n cnt b (flat_map (level_in kids root) (range (suc d) (levels - suc d))) os' ms' whole q then

      pub deep_on : b ≡ true → Deep (d + 1) end cnt os' ms'
      deep_on q =
          let f : LevelFull n n end cnt (lev d) os os' = full n n end cnt (lev d) os ms os' ms' w.within (omega (arith, w.orders)) (ap (λ (x : Bool). queue x cnt os' ms') (sym q) ∙ noted_level) in
          let sizes = all_sizes n n end cnt b (lev d) os ms os' ms' noted_level in
          let m : cnt - end ≡ length (lev d) = omega (arith, f.count) in
          let back : d + 1 - 1 ≡ d = omega arith in
          record {
            low = omega arith;
            high = omega arith;
            sorted = omega (arith, f.count);
            within = f.within;
            orders = sizes.0 ∙ w.orders;
            marked = sizes.1 ∙ w.marked;
            last = ap (λ (z : List ℕ). part end (cnt - end) z) f.order ∙ ap (λ (k : ℕ). part end k (put_at end (lev d) os)) m
                ∙ part_same end (lev d) os (omega (arith, f.count, f.within, w.orders)) ∙ ap (level_in kids root) (sym back);
            small = subst (λ (k : ℕ). All (λ x. x < n) (level_in kids root k)) (sym back) f.below;
            rest = ap (λ (k : ℕ). noted_all n n (flat_map (level_in kids root) (range k (levels - k))) (queue true cnt os' ms')) (add-one d)
                ∙ go_on n n cnt b (flat_map (level_in kids root) (range (suc d) (levels - suc d))) os' ms' whole q then;
          }

  pub deep_end : (d start end : ℕ) (os ms : List ℕ) → Deep d start end os ms → levels ≤ d → (queue true end os ms ≡ whole) × Last n (lev (levels - 1)) start end os
  deep_end d start end os ms w h =
      let z : levels - d ≡ 0 = omega arith in
      let s : d ≡ levels = omega (arith, w.high) in (
        sym (none_left (level_in kids root) n n d (queue true end os ms)) ∙ ap (λ (k : ℕ). noted_all n n (flat_map (level_in kids root) (range d k)) (queue true end os ms)) (sym z) ∙ w.rest,
        record { sorted = w.sorted; small = subst (λ (k : ℕ). All (λ x. x < n) (lev (k - 1))) s w.small; last = w.last ∙ ap (λ (k : ℕ). lev (k - 1)) s },
      )

-- the root noted, and the levels below it --------------------------------------------------------------------------------------------------------

one_noted : (n most c : ℕ) (q : Queue) → noted n most c q ≡ noted_all n most (c ∷ []) q
unfolding noted_all
one_noted n most c q = refl

front_is : (c : ℕ) (os : List ℕ) → get_or (put_at 0 (c ∷ []) os) 0 0 ≡ c
unfolding put_at
front_is c os = refl

only_one : (n c : ℕ) → All (λ k. k < n) (c ∷ []) → c < n
unfolding All
only_one n c h = h.0

pub record FirstLevel (n root cnt : ℕ) (os' : List ℕ) : Type 0 where
  pub count : cnt ≡ 1
  pub some : 1 ≤ n
  pub front : get_or os' 0 0 ≡ root
  pub below : root < n

pub first_noted : (n root cnt : ℕ) (b : Bool) (os ms os' ms' : List ℕ) → n ≤ length os → b ≡ true → queue b cnt os' ms' ≡ noted n n root (queue true 0 os ms) → FirstLevel n root cnt os'
first_noted n root cnt b os ms os' ms' l q e =
    let f : LevelFull n n 0 cnt (root ∷ []) os os' = full n n 0 cnt (root ∷ []) os ms os' ms' (omega arith) l
    (ap (λ (x : Bool). queue x cnt os' ms') (sym q) ∙ e ∙ one_noted n n root (queue true 0 os ms)) in
    record { count = f.count; some = omega (arith, f.count, f.within); front = ap (λ (z : List ℕ). get_or z 0 0) f.order ∙ front_is root os; below = only_one n root f.below }

module _ (kids : ℕ → List ℕ) (root n levels cnt : ℕ) (b : Bool) (os ms os' ms' : List ℕ) (l : 1 ≤ levels) (e : queue b cnt os' ms' ≡ noted n n root (queue true 0 os ms)) where
  -- the levels from the root's on
  abbrev every : Queue
  every = noted_all n n (flat_map (level_in kids root) (range 0 levels)) (queue true 0 os ms)

  first_level_is : level_in kids root 0 ≡ root ∷ []
  unfolding level_in
  first_level_is = refl

  below_first : noted_all n n (flat_map (level_in kids root) (range 1 (levels - 1))) (queue b cnt os' ms') ≡ every
  below_first =
      let q : suc (levels - 1) ≡ levels = omega arith in
      ap (noted_all n n (flat_map (level_in kids root) (range 1 (levels - 1))))
      (e ∙ one_noted n n root (queue true 0 os ms) ∙ ap (λ (z : List ℕ). noted_all n n z (queue true 0 os ms)) (sym first_level_is))
      ∙ sym (in_two n n (level_in kids root 0) (flat_map (level_in kids root) (range 1 (levels - 1))) (queue true 0 os ms))
      ∙ ap (λ (z : List ℕ). noted_all n n z (queue true 0 os ms)) (sym (level_on (level_in kids root) 0 (levels - 1)) ∙ ap (λ (k : ℕ). flat_map (level_in kids root) (range 0 k)) q)

  -- the root's level, named by what stands first in the queue
  pub first_last : get_or os' 0 0 ≡ root → (start end : ℕ) (os'' : List ℕ) → Last n (level_in kids (get_or os' 0 0) (levels - 1)) start end os'' → Last n (level_in kids root (levels - 1)) start end os''
  first_last f start end os'' w = subst (λ (x : ℕ). Last n (level_in kids x (levels - 1)) start end os'') f w

  pub first_stop : b ≡ false → queue b cnt os' ms' ≡ every
  first_stop q = stop n n cnt b (flat_map (level_in kids root) (range 1 (levels - 1))) os' ms' every q below_first

  pub first_on : b ≡ true → cnt ≡ 1 → get_or os' 0 0 ≡ root → (r : Queue) → r ≡ noted_all n n (flat_map (level_in kids (get_or os' 0 0)) (range 1 (levels - 1))) (queue true 1 os' ms') → r ≡ every
  first_on q c f r w =
      w ∙ ap (λ (x : ℕ). noted_all n n (flat_map (level_in kids x) (range 1 (levels - 1))) (queue true 1 os' ms')) f
      ∙ ap (λ (x : ℕ). noted_all n n (flat_map (level_in kids root) (range 1 (levels - 1))) (queue true x os' ms')) (sym c)
      ∙ ap (λ (x : Bool). noted_all n n (flat_map (level_in kids root) (range 1 (levels - 1))) (queue x cnt os' ms')) (sym q) ∙ below_first
