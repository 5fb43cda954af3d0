-- Repair of a sound tree drops its finger and changes no word. Assumes nothing.
use Rattle.std.specs.Prelude.{◌≡◌, Bool, true, false, List, [], ◌∷◌, ◌++◌, map, ℕ, zero, suc, ◌+◌, ◌-◌, ◌*◌, ◌<◌, ◌≤◌, length, get_or, drop, ltb}
use Rattle.std.proofs.Math.Path.{refl, sym}
use Rattle.std.proofs.Common.{ap, ap₂, ◌∙◌, arith, length-append, length-drop, ext_get_or, get_or-append-add, get_or-drop, ltb-true, ltb-false}
use Rattle.std.proofs.lemmas.List.{length-map}
use Rattle.model.specs.Lists.{All, part, put_at, range}
use Rattle.model.specs.Node.{Node}
use Rattle.model.specs.State.{State, state, node_at, put_node}
use Rattle.model.specs.Sound.{CoherentAt, shape_in, leaf_in, inner_in, inners_reached}
use Rattle.model.specs.declared.shape.Shape.{Shape}
use Rattle.model_laws.specs.Words.{put_same}
use Rattle.model_laws.specs.Nodes.{words_node}
use Rattle.model_laws.specs.Areas.{length_node}
use Rattle.model.specs.Mend.{no_finger, put_all, put_each, leaf_anew, inner_anew, home_of, mend}
use Rattle.model.specs.Repair.{Agrees, Same}
use Rattle.model_theory.specs.RepairTrusted.{TrustedCoherent, LongAreas, sound_fits}
use Rattle.model_theory.specs.RepairLists.{length_range}
use Rattle.model_theory.specs.RepairWords.{within, leaf_is, inner_is, home_is, mend_right}

-- a node written as it is
put_own : (g : Shape) (k : ℕ) (area : List ℕ) → g.size ≡ 3 + g.fan * g.stride → k * g.size + g.size ≤ length area → put_node g k (node_at g k area) area ≡ area
put_own g k area e h =
    ap (λ (l : List ℕ). put_at (k * g.size) l area) (words_node g.stride g.fan (part (k * g.size) g.size area) (length_node g k area e h))
    ∙ put_same (k * g.size) g.size area h

-- nodes written as they are
put_kept : (g : Shape) (e : g.size ≡ 3 + g.fan * g.stride) (f : ℕ → Node) (m : ℕ) (area : List ℕ) → m * g.size ≤ length area → (n : ℕ) → n ≤ m → ((k : ℕ) → k < n → f k ≡ node_at g k area) → put_all g f n area ≡ area
unfolding put_all
put_kept g e f m area h zero l q = refl
put_kept g e f m area h (suc n) l q =
    ap₂ (put_node g n) (q n (omega arith)) (put_kept g e f m area h n (omega arith) (λ k a. q k (omega arith)))
    ∙ put_own g n area e (within g n m (length area) l h)

each_kept : (g : Shape) (e : g.size ≡ 3 + g.fan * g.stride) (f : ℕ → Node) (m n : ℕ) (area : List ℕ) → m * g.size ≤ length area → n ≤ m → ((k : ℕ) → k < n → f k ≡ node_at g k area) → (ks : List ℕ) → All (λ k. k < n) ks → put_each g f ks area ≡ area
unfolding put_each All
each_kept g e f m n area h l q [] a = refl
each_kept g e f m n area h l q (k ∷ ks) a =
    ap₂ (put_node g k) (q k a.0) (each_kept g e f m n area h l q ks a.1) ∙ put_own g k area e (within g k m (length area) (omega (arith, a.0)) h)

agrees_self : (s : ℕ) (t : State) → Agrees s t t
agrees_self s t = record { head = refl; leaf_len = λ k l. refl; leaf_slots_law = λ k l. refl; inner_len = λ k l. refl; inner_children = λ k l. refl }

module _ (s e : ℕ) (hs : 0 < s) (t : State) (w : CoherentAt s t e) where
  f : TrustedCoherent s t
  f = sound_fits s e t w

  areas : LongAreas s t
  areas = record { leaf_area = w.leaf_area; inner_area = w.inner_area; home_area = w.home_area }

  kept : Same s (mend s t) t
  kept = (mend_right s e hs t f areas).only t w (agrees_self s t)

  leaf_own : (k : ℕ) → k < t.head.leaves → leaf_anew s t k ≡ leaf_in s t k
  unfolding mend
  leaf_own k l = sym (leaf_is s e hs t f areas k l) ∙ sym (kept.leaves k l)

  inner_own : (k : ℕ) → k < t.head.inners → inner_anew s t k ≡ inner_in s t k
  unfolding mend
  inner_own k l = sym (inner_is s e hs t f areas k l) ∙ sym (kept.inners k l)

  home_own : (id : ℕ) → id < t.head.entries → home_of s t id ≡ get_or t.homes id 0
  unfolding mend
  home_own id l = sym (home_is s e hs t f areas id l) ∙ sym (kept.homes id l)

  homes_kept : map (home_of s t) (range 0 t.head.entries) ++ drop t.head.entries t.homes ≡ t.homes
  homes_kept = ext_get_or 0 _ t.homes size (λ i l. go i l (ltb i t.head.entries) refl)
    where
      front : length (map (home_of s t) (range 0 t.head.entries)) ≡ t.head.entries
      front = length-map (range 0 t.head.entries) (home_of s t) ∙ length_range 0 t.head.entries

      size : length (map (home_of s t) (range 0 t.head.entries) ++ drop t.head.entries t.homes) ≡ length t.homes
      size = omega (arith, w.entry_count, w.home_area, front, length-append (map (home_of s t) (range 0 t.head.entries)) (drop t.head.entries t.homes), length-drop t.head.entries t.homes)

      go : (i : ℕ) → i < length (map (home_of s t) (range 0 t.head.entries) ++ drop t.head.entries t.homes) → (b : Bool) → ltb i t.head.entries ≡ b
          → get_or (map (home_of s t) (range 0 t.head.entries) ++ drop t.head.entries t.homes) i 0 ≡ get_or t.homes i 0
      go i l true q = home_is s e hs t f areas i (ltb-true i t.head.entries q) ∙ home_own i (ltb-true i t.head.entries q)
      go i l false q =
          let m : t.head.entries ≤ i = ltb-false i t.head.entries q in
          let n : length (map (home_of s t) (range 0 t.head.entries)) + (i - t.head.entries) ≡ i = omega (arith, front) in
          let o : t.head.entries + (i - t.head.entries) ≡ i = omega arith in
          ap (λ (j : ℕ). get_or (map (home_of s t) (range 0 t.head.entries) ++ drop t.head.entries t.homes) j 0) (sym n)
          ∙ (get_or-append-add (map (home_of s t) (range 0 t.head.entries)) (drop t.head.entries t.homes) (i - t.head.entries) 0
          ∙ (get_or-drop t.head.entries t.homes (i - t.head.entries) 0 ∙ ap (λ (j : ℕ). get_or t.homes j 0) o))

  pub sound_kept : mend s t ≡ state (no_finger t.head) t.leaves t.inners t.homes
  unfolding mend
  sound_kept =
      rw (put_kept (shape_in s t) refl (leaf_anew s t) (shape_in s t).nodes t.leaves w.leaf_area t.head.leaves w.leaf_count leaf_own, each_kept (shape_in s t) refl (inner_anew s t) (shape_in s t).nodes t.head.inners t.inners w.inner_area w.inner_count inner_own (inners_reached s t) w.inners_once.below, homes_kept)
