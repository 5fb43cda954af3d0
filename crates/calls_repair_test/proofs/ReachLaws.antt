-- Inner nodes, leaves and ids noted one after the other in one queue. Assumes nothing.
use mathlib.Core.Path.{◌≡◌, refl, sym, ap, subst, ◌∙◌}
use mathlib.Core.Bool.{Bool, true, false, ◌&&◌}
use mathlib.Core.List.{List, flat_map}
use Prim.Native.Nat.{ℕ, suc, ◌+◌, ◌-◌, ◌≤◌}
use native.Mathlib.Omega.{arith}
use lib.ListN.{length, replicate, length-replicate}
use lib.Dec.{eqb}
use borrow.Author.Tests.{eqb-true}
use Rattle.model.specs.Lists.{part, put_at}
use Rattle.model.specs.Mend.{is_once}
use Rattle.model.specs.declared.shape.Shape.{Shape}
use Rattle.model_laws.specs.Lists.{and_true}
use Rattle.model_laws.specs.Words.{length_put, part_same, part_before}
use Rattle.calls_repair_test.specs.Queue.{Queue, queue, noted_all, level_in, QueueRoom, Parents, Lens, Last}
use Rattle.calls_repair_test.specs.Reach.{Marks, inners_from, leaves_from, ids_from, QueueReached}
use Rattle.calls_repair_test.proofs.LevelLaws.{LevelFull, full, parents_of}
use Rattle.calls_repair_test.proofs.FreshLaws.{queue_full}

-- the three tests one after the other
first_no : (f o l e : Bool) → f ≡ o → f ≡ false → false ≡ (o && l && e)
first_no f o l e p q = rw (sym p ∙ q)

second_no : (o f l e : Bool) → o ≡ true → f ≡ l → f ≡ false → false ≡ (o && l && e)
second_no o f l e r p q = rw (r, sym p ∙ q)

third_is : (o l f e : Bool) → o ≡ true → l ≡ true → f ≡ e → f ≡ (o && l && e)
third_is o l f e r s p = rw (r, s, sym p)

-- n numbers noted behind k others
record Noted (n k : ℕ) (cs os os' : List ℕ) : Type 0 where
  pub ok : is_once n cs ≡ true
  pub full : LevelFull n (k + n) k (k + n) cs os os'
  pub long : length cs ≡ n
  pub area : length os' ≡ length os

module _ (n k most N cnt : ℕ) (b : Bool) (cs os ms os' ms' : List ℕ) (r : most ≡ k + n) (z : ms ≡ replicate N 0) (h : n ≤ N) (l : most ≤ length os)
    (e : queue b cnt os' ms' ≡ noted_all n most cs (queue true k os ms)) (f : Bool) (t : f ≡ (b && eqb cnt most))
  where
    once : f ≡ is_once n cs
    once = t ∙ queue_full n k most N cnt b cs os ms os' ms' r z h l e

    is_ok : f ≡ true → b ≡ true
    is_ok q = (and_true b (eqb cnt most) (sym t ∙ q)).0

    counted : f ≡ true → cnt ≡ most
    counted q = eqb-true cnt most (and_true b (eqb cnt most) (sym t ∙ q)).1

    noted_as : f ≡ true → Noted n k cs os os'
    noted_as q =
        let w : LevelFull n most k cnt cs os os' = full n most k cnt cs os ms os' ms' (omega arith) l (ap (λ (x : Bool). queue x cnt os' ms') (sym (is_ok q)) ∙ e) in
        let c : cnt ≡ k + n = counted q ∙ r in
        let m : length cs ≡ n = omega (arith, w.count) in
        record {
          ok = sym once ∙ q;
          full = record { count = omega arith; within = omega arith; order = w.order; below = w.below };
          long = m;
          area = ap length w.order ∙ length_put k cs os (omega arith);
        }

-- room for one list more
room_of : (n most o : ℕ) (ms : List ℕ) → Marks n ms → most ≤ o → QueueRoom n most o (length ms)
room_of n most o ms w h = record { order = h; marks = omega (arith, w.room, ap length w.zeros ∙ length-replicate {A = ℕ} w.size 0); word = w.word }

relist : (n most k : ℕ) (ks ls os ms : List ℕ) (q : Queue) → ks ≡ ls → q ≡ noted_all n most ks (queue true k os ms) → q ≡ noted_all n most ls (queue true k os ms)
relist n most k ks ls os ms q e w = w ∙ ap (λ (z : List ℕ). noted_all n most z (queue true k os ms)) e

next_level : (kids : ℕ → List ℕ) (root levels : ℕ) → 1 ≤ levels → flat_map kids (level_in kids root (levels - 1)) ≡ leaves_from kids root levels
unfolding level_in
next_level kids root levels h = let q : suc (levels - 1) ≡ levels = omega arith in ap (level_in kids root) q

-- inner nodes, leaves and ids, as the code notes them
module _ (kids entries : ℕ → List ℕ) (root levels n m e : ℕ) (hl : 1 ≤ levels) (os u l d : List ℕ) (mu : Marks n u) (ml : Marks m l) (md : Marks e d) (room : n + m + e ≤ length os) where
  abbrev I : List ℕ
  I = inners_from kids root levels

  abbrev L : List ℕ
  L = leaves_from kids root levels

  abbrev E : List ℕ
  E = ids_from kids entries root levels

  abbrev whole : Bool
  whole = is_once n I && is_once m L && is_once e E

  module _ (b₁ : Bool) (c₁ start : ℕ) (os₁ u₁ : List ℕ) (e₁ : queue b₁ c₁ os₁ u₁ ≡ noted_all n n I (queue true 0 os u)) (la : b₁ ≡ true → Last n (level_in kids root (levels - 1)) start c₁ os₁)
      (f₁ : Bool) (t₁ : f₁ ≡ (b₁ && eqb c₁ n))
    where
      once_1 : f₁ ≡ is_once n I
      once_1 = once n 0 n mu.size c₁ b₁ I os u os₁ u₁ (omega arith) mu.zeros mu.room (omega arith) e₁ f₁ t₁

      pub stop_1 : f₁ ≡ false → false ≡ whole
      stop_1 q = first_no f₁ (is_once n I) (is_once m L) (is_once e E) once_1 q

      module _ (q₁ : f₁ ≡ true) where
        one : Noted n 0 I os os₁
        one = noted_as n 0 n mu.size c₁ b₁ I os u os₁ u₁ (omega arith) mu.zeros mu.room (omega arith) e₁ f₁ t₁ q₁

        last : Last n (level_in kids root (levels - 1)) start n os₁
        last =
            subst (λ (x : ℕ). Last n (level_in kids root (levels - 1)) start x os₁) (counted n 0 n mu.size c₁ b₁ I os u os₁ u₁ (omega arith) mu.zeros mu.room (omega arith) e₁ f₁ t₁ q₁)
            (la (is_ok n 0 n mu.size c₁ b₁ I os u os₁ u₁ (omega arith) mu.zeros mu.room (omega arith) e₁ f₁ t₁ q₁))

        area_2 : n + m ≤ length os₁
        area_2 = omega (arith, one.area)

        pub room_2 : QueueRoom m (n + m) (length os₁) (length l)
        room_2 = room_of m (n + m) (length os₁) l ml area_2

        pub sorted_2 : start ≤ n
        sorted_2 = last.sorted

        pub long_2 : n ≤ length os₁
        long_2 = omega (arith, area_2)

        pub parents_2 : (g : Shape) (xs : List ℕ) → Lens g n xs → Parents g xs start n os₁
        parents_2 g xs w = parents_of g n start n xs os₁ (level_in kids root (levels - 1)) w last.sorted long_2 last.last last.small

        module _ (b₂ : Bool) (c₂ : ℕ) (os₂ l₂ : List ℕ) (e₂ : queue b₂ c₂ os₂ l₂ ≡ noted_all m (n + m) (flat_map kids (part start (n - start) os₁)) (queue true n os₁ l)) (f₂ : Bool)
            (t₂ : f₂ ≡ (b₂ && eqb c₂ (n + m))) where
          noted_2 : queue b₂ c₂ os₂ l₂ ≡ noted_all m (n + m) L (queue true n os₁ l)
          noted_2 = relist m (n + m) n (flat_map kids (part start (n - start) os₁)) L os₁ l (queue b₂ c₂ os₂ l₂) (ap (flat_map kids) last.last ∙ next_level kids root levels hl) e₂

          once_2 : f₂ ≡ is_once m L
          once_2 = once m n (n + m) ml.size c₂ b₂ L os₁ l os₂ l₂ refl ml.zeros ml.room area_2 noted_2 f₂ t₂

          pub stop_2 : f₂ ≡ false → false ≡ whole
          stop_2 q = second_no (is_once n I) f₂ (is_once m L) (is_once e E) one.ok once_2 q

          module _ (q₂ : f₂ ≡ true) where
            two : Noted m n L os₁ os₂
            two = noted_as m n (n + m) ml.size c₂ b₂ L os₁ l os₂ l₂ refl ml.zeros ml.room area_2 noted_2 f₂ t₂ q₂

            area_3 : n + m + e ≤ length os₂
            area_3 = omega (arith, one.area, two.area)

            pub room_3 : QueueRoom e (n + m + e) (length os₂) (length d)
            room_3 = room_of e (n + m + e) (length os₂) d md area_3

            pub long_3 : n + m ≤ length os₂
            long_3 = omega (arith, area_3)

            met : part n (n + m - n) os₂ ≡ L
            met =
                let q : n + m - n ≡ length L = omega (arith, two.long) in
                ap (λ (x : ℕ). part n x os₂) q ∙ ap (part n (length L)) two.full.order ∙ part_same n L os₁ (omega (arith, two.long, area_2))

            pub parents_3 : (g : Shape) (ls : List ℕ) → Lens g m ls → Parents g ls n (n + m) os₂
            parents_3 g ls w = parents_of g m n (n + m) ls os₂ L w (omega arith) long_3 met two.full.below

            module _ (b₃ : Bool) (c₃ : ℕ) (os₃ d₃ : List ℕ) (e₃ : queue b₃ c₃ os₃ d₃ ≡ noted_all e (n + m + e) (flat_map entries (part n (n + m - n) os₂)) (queue true (n + m) os₂ d))
                (f₃ : Bool) (t₃ : f₃ ≡ (b₃ && eqb c₃ (n + m + e)))
              where
                noted_3 : queue b₃ c₃ os₃ d₃ ≡ noted_all e (n + m + e) E (queue true (n + m) os₂ d)
                noted_3 = relist e (n + m + e) (n + m) (flat_map entries (part n (n + m - n) os₂)) E os₂ d (queue b₃ c₃ os₃ d₃) (ap (flat_map entries) met) e₃

                pub end_3 : f₃ ≡ whole
                end_3 =
                    third_is (is_once n I) (is_once m L) f₃ (is_once e E) one.ok two.ok
                    (once e (n + m) (n + m + e) md.size c₃ b₃ E os₂ d os₃ d₃ refl md.zeros md.room area_3 noted_3 f₃ t₃)

                pub reached_3 : f₃ ≡ true → QueueReached kids root levels n m start os₃
                reached_3 q = record {
                  long = omega (arith, three.area, area_3);
                  above =
                      before_ids 0 n (omega arith) ∙ before_leaves 0 n (omega arith) ∙ ap (part 0 n) one.full.order
                      ∙ ap (λ (k : ℕ). part 0 k (put_at 0 I os)) (sym one.long) ∙ part_same 0 I os (omega (arith, one.long));
                  sorted = last.sorted;
                  lowest = before_ids start (n - start) (omega (arith, last.sorted)) ∙ before_leaves start (n - start) (omega (arith, last.sorted)) ∙ last.last;
                  met =
                      before_ids n m (omega arith) ∙ ap (part n m) two.full.order
                      ∙ ap (λ (k : ℕ). part n k (put_at n L os₁)) (sym two.long) ∙ part_same n L os₁ (omega (arith, two.long, area_2));
                  inners_used = one.full.below;
                  leaves_used = two.full.below;
                }
                  where
                    three : Noted e (n + m) E os₂ os₃
                    three = noted_as e (n + m) (n + m + e) md.size c₃ b₃ E os₂ d os₃ d₃ refl md.zeros md.room area_3 noted_3 f₃ t₃ q

                    before_ids : (p k : ℕ) → p + k ≤ n + m → part p k os₃ ≡ part p k os₂
                    before_ids p k h = ap (part p k) three.full.order ∙ part_before p k (n + m) E os₂ h (omega (arith, three.long, area_3))

                    before_leaves : (p k : ℕ) → p + k ≤ n → part p k os₂ ≡ part p k os₁
                    before_leaves p k h = ap (part p k) two.full.order ∙ part_before p k n L os₁ h (omega (arith, two.long, area_2))
