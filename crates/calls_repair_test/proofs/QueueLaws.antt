-- One node noted or not, and one turn over a node's children and over the nodes of a level. Assumes nothing.
use mathlib.Core.Path.{◌≡◌, refl, sym, ap, subst, ◌∙◌}
use mathlib.Core.Bool.{Bool, true, false, cond, ◌&&◌}
use mathlib.Core.List.{List, [], ◌∷◌, ◌++◌, map, flat_map}
use Prim.Native.Nat.{ℕ, suc, ◌+◌, ◌-◌, ◌<◌, ◌≤◌}
use native.Mathlib.Omega.{arith}
use native.Mathlib.Numerals.{add-one}
use lib.ListN.{length, get_or, take, drop, set, length-map, length-set, drop_of_length-le, get_or-map}
use lib.Seq.{drop-cons, get_or-take, length-take-le, take-set-le}
use lib.Dec.{ltb, eqb}
use borrow.Author.Tests.{lt-ltb, le-ltb, eq-eqb, ne_eqb}
use Rattle.model.specs.Lists.{part}
use Rattle.model.specs.Node.{Node, child, used}
use Rattle.model.specs.State.{node_at}
use Rattle.model.specs.declared.shape.Shape.{Shape}
use Rattle.calls_repair_test.specs.Queue.{Queue, queue, noted, noted_all, QueueRoom, Parents}

module _ (n most c count : ℕ) (os ms : List ℕ) where
  pub not_below : n ≤ c → queue false count os ms ≡ noted n most c (queue true count os ms)
  unfolding noted
  not_below h = rw (le-ltb c n h)

  pub not_new : c < n → (get_or ms c 0 ≡ 0 → ⊥) → queue false count os ms ≡ noted n most c (queue true count os ms)
  unfolding noted
  not_new h d = rw (lt-ltb c n h, ne_eqb (get_or ms c 0) 0 d)

  pub no_room : c < n → get_or ms c 0 ≡ 0 → most ≤ count → queue false count os ms ≡ noted n most c (queue true count os ms)
  unfolding noted
  no_room h d r = rw (lt-ltb c n h, eq-eqb (get_or ms c 0) 0 d, le-ltb count most r)

  pub is_noted : c < n → get_or ms c 0 ≡ 0 → count < most → queue true (count + 1) (set os count c) (set ms c 1) ≡ noted n most c (queue true count os ms)
  unfolding noted
  is_noted h d r = rw (lt-ltb c n h, eq-eqb (get_or ms c 0) 0 d, lt-ltb count most r)

-- nothing is noted after a failure
pub stays : (n most count : ℕ) (cs os ms : List ℕ) → noted_all n most cs (queue false count os ms) ≡ queue false count os ms
unfolding noted_all noted
stays n most count [] os ms = refl
stays n most count (c ∷ cs) os ms = stays n most count cs os ms

pub stop : (n most count : ℕ) (b : Bool) (cs os ms : List ℕ) (all : Queue) → b ≡ false → noted_all n most cs (queue b count os ms) ≡ all → queue b count os ms ≡ all
stop n most count b cs os ms all e inv =
    ap (λ (x : Bool). queue x count os ms) e ∙ sym (stays n most count cs os ms) ∙ ap (λ (x : Bool). noted_all n most cs (queue x count os ms)) (sym e) ∙ inv

pub go_on : (n most count : ℕ) (b : Bool) (cs os ms : List ℕ) (all : Queue) → b ≡ true → noted_all n most cs (queue b count os ms) ≡ all → noted_all n most cs (queue true count os ms) ≡ all
go_on n most count b cs os ms all e inv = ap (λ (x : Bool). noted_all n most cs (queue x count os ms)) (sym e) ∙ inv

pub in_two : (n most : ℕ) (cs ds : List ℕ) (q : Queue) → noted_all n most (cs ++ ds) q ≡ noted_all n most ds (noted_all n most cs q)
unfolding noted_all
in_two n most [] ds q = refl
in_two n most (c ∷ cs) ds q = in_two n most cs ds (noted n most c q)

-- the children of one node ------------------------------------------------------------------------------------------------------------------

module _ (n most i : ℕ) (m : Node) (q : Queue) where
  abbrev kids : List ℕ
  kids = map child (used m)

  kids_length : m.len ≤ length m.slots → length kids ≡ m.len
  kids_length h = length-map (used m) child ∙ length-take-le m.len m.slots h

  kid_at : i < m.len → get_or kids i 0 ≡ child (get_or m.slots i [])
  kid_at h = get_or-map child (used m) i [] ∙ ap child (get_or-take m.len m.slots i [] h)

  one_step : (c : ℕ) (cs : List ℕ) → noted_all n most (c ∷ cs) q ≡ noted_all n most cs (noted n most c q)
  unfolding noted_all
  one_step c cs = refl

  pub turn : (c : ℕ) (now all : Queue) → m.len ≤ length m.slots → i < m.len → c ≡ child (get_or m.slots i []) → now ≡ noted n most c q → noted_all n most (drop i kids) q ≡ all
      → noted_all n most (drop (i + 1) kids) now ≡ all
  turn c now all h l ec en inv =
      let d : drop i kids ≡ get_or kids i 0 ∷ drop (suc i) kids = drop-cons kids i 0 (omega (arith, kids_length h)) in
      let e : get_or kids i 0 ≡ c = kid_at l ∙ sym ec in
      ap (λ (j : ℕ). noted_all n most (drop j kids) now) (add-one i)
      ∙ ap (noted_all n most (drop (suc i) kids)) (en ∙ ap (λ (x : ℕ). noted n most x q) (sym e))
      ∙ sym (one_step (get_or kids i 0) (drop (suc i) kids)) ∙ ap (λ (z : List ℕ). noted_all n most z q) (sym d) ∙ inv

  pub last : (len : ℕ) (all : Queue) → m.len ≤ length m.slots → len ≤ i → len ≡ m.len → noted_all n most (drop i kids) q ≡ all → q ≡ all
  unfolding noted_all
  last len all h l el inv =
      let d : drop i kids ≡ [] = drop_of_length-le kids {i = i} (omega (arith, kids_length h, l, el)) in
      subst (λ (z : List ℕ). noted_all n most z q ≡ all) d inv

-- what noting leaves as it was: the front of the queue and the sizes; the count doesn't fall
pub record QueueKept (end : ℕ) (q r : Queue) : Type 0 where
  pub front : take end r.order ≡ take end q.order
  pub more : q.count ≤ r.count
  pub orders : length r.order ≡ length q.order
  pub marked : length r.marks ≡ length q.marks

kept_on : {end : ℕ} {q r t : Queue} → QueueKept end q r → QueueKept end r t → QueueKept end q t
kept_on a b = record { front = b.front ∙ a.front; more = omega (arith, a.more, b.more); orders = b.orders ∙ a.orders; marked = b.marked ∙ a.marked }

pub noted_kept : (end n most c : ℕ) (q : Queue) → end ≤ q.count → QueueKept end q (noted n most c q)
unfolding noted
noted_kept end n most c q h = go (q.ok && ltb c n && eqb (get_or q.marks c 0) 0 && ltb q.count most)
  where
    go : (b : Bool) → QueueKept end q (cond b (queue true (q.count + 1) (set q.order q.count c) (set q.marks c 1)) (queue false q.count q.order q.marks))
    go true = record { front = take-set-le end q.order q.count c h; more = omega arith; orders = length-set q.order q.count c; marked = length-set q.marks c 1 }
    go false = record { front = refl; more = omega arith; orders = refl; marked = refl }

pub all_kept : (end n most : ℕ) (cs : List ℕ) (q : Queue) → end ≤ q.count → QueueKept end q (noted_all n most cs q)
unfolding noted_all
all_kept end n most [] q h = record { front = refl; more = omega arith; orders = refl; marked = refl }
all_kept end n most (c ∷ cs) q h =
    let a : QueueKept end q (noted n most c q) = noted_kept end n most c q h in
    kept_on a (all_kept end n most cs (noted n most c q) (omega (arith, a.more)))

-- lengths as one call leaves them, by its contract
pub noted_sizes : (n most c count cnt : ℕ) (b : Bool) (os ms os' ms' : List ℕ) → queue b cnt os' ms' ≡ noted n most c (queue true count os ms) → (length os' ≡ length os) × (length ms' ≡ length ms)
noted_sizes n most c count cnt b os ms os' ms' e =
    let k = noted_kept 0 n most c (queue true count os ms) (omega arith) in
    (ap (λ (z : Queue). length z.order) e ∙ k.orders, ap (λ (z : Queue). length z.marks) e ∙ k.marked)

pub all_sizes : (n most count cnt : ℕ) (b : Bool) (cs os ms os' ms' : List ℕ) → queue b cnt os' ms' ≡ noted_all n most cs (queue true count os ms) → (length os' ≡ length os) × (length ms' ≡ length ms)
all_sizes n most count cnt b cs os ms os' ms' e =
    let k = all_kept 0 n most cs (queue true count os ms) (omega arith) in
    (ap (λ (z : Queue). length z.order) e ∙ k.orders, ap (λ (z : Queue). length z.marks) e ∙ k.marked)

-- the children of the nodes of a level -------------------------------------------------------------------------------------------------------

-- the state of the loop: nodes from j on are left
pub record QueueLeft (kids : ℕ → List ℕ) (n most start end j count₀ count : ℕ) (os₀ ms₀ os ms : List ℕ) : Type 0 where
  pub low : start ≤ j
  pub high : j ≤ end
  pub front : take end os ≡ take end os₀
  pub counted : end ≤ count
  pub orders : length os ≡ length os₀
  pub marked : length ms ≡ length ms₀
  pub rest : noted_all n most (flat_map kids (part j (end - j) os₀)) (queue true count os ms) ≡ noted_all n most (flat_map kids (part start (end - start) os₀)) (queue true count₀ os₀ ms₀)

more : {A B : Type 0} (f : A → List B) (x : A) (l : List A) → flat_map f (x ∷ l) ≡ f x ++ flat_map f l
unfolding flat_map
more f x l = refl

module _ (kids : ℕ → List ℕ) (n most start end j count₀ count : ℕ) (os₀ ms₀ os ms : List ℕ) (w : QueueLeft kids n most start end j count₀ count os₀ ms₀ os ms) (l : j < end) (room : end ≤ length os₀) where
  pub same_node : get_or os j 0 ≡ get_or os₀ j 0
  same_node = sym (get_or-take end os j 0 l) ∙ ap (λ (z : List ℕ). get_or z j 0) w.front ∙ get_or-take end os₀ j 0 l

  next_node : part j (end - j) os₀ ≡ get_or os₀ j 0 ∷ part (suc j) (end - suc j) os₀
  unfolding part
  next_node =
      let e : end - j ≡ suc (end - suc j) = omega arith in
      ap (λ (m : ℕ). take m (drop j os₀)) e ∙ ap (take (suc (end - suc j))) (drop-cons os₀ j 0 (omega arith))

  abbrev others : List ℕ
  others = flat_map kids (part (suc j) (end - suc j) os₀)

  one_node : (k : ℕ) (r : Queue) → k ≡ get_or os j 0 → r ≡ noted_all n most (kids k) (queue true count os ms)
      → noted_all n most others r ≡ noted_all n most (flat_map kids (part start (end - start) os₀)) (queue true count₀ os₀ ms₀)
  one_node k r ek er =
      ap (noted_all n most others) (er ∙ ap (λ (x : ℕ). noted_all n most (kids x) (queue true count os ms)) (ek ∙ same_node))
      ∙ sym (in_two n most (kids (get_or os₀ j 0)) others (queue true count os ms))
      ∙ ap (λ (z : List ℕ). noted_all n most z (queue true count os ms)) (sym (more kids (get_or os₀ j 0) (part (suc j) (end - suc j) os₀)) ∙ ap (flat_map kids) (sym next_node)) ∙ w.rest

  pub left_stop : (k cnt : ℕ) (b : Bool) (os' ms' : List ℕ) → k ≡ get_or os j 0 → queue b cnt os' ms' ≡ noted_all n most (kids k) (queue true count os ms) → b ≡ false
      → queue b cnt os' ms' ≡ noted_all n most (flat_map kids (part start (end - start) os₀)) (queue true count₀ os₀ ms₀)
  left_stop k cnt b os' ms' ek er eb = stop n most cnt b others os' ms' _ eb (one_node k (queue b cnt os' ms') ek er)

  pub left_on : (k cnt : ℕ) (b : Bool) (os' ms' : List ℕ) → k ≡ get_or os j 0 → queue b cnt os' ms' ≡ noted_all n most (kids k) (queue true count os ms) → b ≡ true
      → QueueLeft kids n most start end (j + 1) count₀ cnt os₀ ms₀ os' ms'
  left_on k cnt b os' ms' ek er eb =
      let a : QueueKept end (queue true count os ms) (noted_all n most (kids k) (queue true count os ms)) = all_kept end n most (kids k) (queue true count os ms) w.counted in
      let c : QueueKept end (queue true count os ms) (queue b cnt os' ms') = subst (QueueKept end (queue true count os ms)) (sym er) a in
      let r = go_on n most cnt b others os' ms' _ eb (one_node k (queue b cnt os' ms') ek er) in
      record {
        low = omega (arith, w.low);
        high = omega arith;
        front = c.front ∙ w.front;
        counted = omega (arith, c.more, w.counted);
        orders = c.orders ∙ w.orders;
        marked = c.marked ∙ w.marked;
        rest = ap (λ (x : ℕ). noted_all n most (flat_map kids (part x (end - x) os₀)) (queue true cnt os' ms')) (add-one j) ∙ r;
      }

pub left_none : (kids : ℕ → List ℕ) (n most start end j count₀ count : ℕ) (os₀ ms₀ os ms : List ℕ) → QueueLeft kids n most start end j count₀ count os₀ ms₀ os ms → end ≤ j
    → queue true count os ms ≡ noted_all n most (flat_map kids (part start (end - start) os₀)) (queue true count₀ os₀ ms₀)
unfolding part noted_all flat_map
left_none kids n most start end j count₀ count os₀ ms₀ os ms w h =
    let e : end - j ≡ 0 = omega arith in
    subst (λ (m : ℕ). noted_all n most (flat_map kids (take m (drop j os₀))) (queue true count os ms) ≡ noted_all n most (flat_map kids (part start (end - start) os₀))
    (queue true count₀ os₀ ms₀)) e w.rest

-- node j of the queue is a parent of the level
pub parent_at : (kids : ℕ → List ℕ) (g : Shape) (inners : List ℕ) (n most start end j count₀ count : ℕ) (os₀ ms₀ os ms : List ℕ)
    → QueueLeft kids n most start end j count₀ count os₀ ms₀ os ms → j < end → end ≤ length os₀
    → Parents g inners start end os₀ → (get_or os j 0 < g.nodes) × ((node_at g (get_or os j 0) inners).len ≤ g.fan)
parent_at kids g inners n most start end j count₀ count os₀ ms₀ os ms w l room h =
    subst (λ (k : ℕ). (k < g.nodes) × ((node_at g k inners).len ≤ g.fan)) (sym (same_node kids n most start end j count₀ count os₀ ms₀ os ms w l room)) (h j w.low l)

-- areas of the same lengths have the same room
pub still : {n most o m o' m' : ℕ} → QueueRoom n most o m → o' ≡ o → m' ≡ m → QueueRoom n most o' m'
still r a b = record { order = omega (arith, r.order, a); marks = omega (arith, r.marks, b); word = r.word }
