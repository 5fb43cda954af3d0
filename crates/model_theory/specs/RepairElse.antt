-- Everything else stays: the words behind the nodes in use and the homes behind those of the entries. Assumes nothing.
use Rattle.std.specs.Prelude.{◌≡◌}
use Rattle.std.proofs.Math.Path.{refl, ap}
use Rattle.std.proofs.Common.{sym, ◌∙◌, get_or-append-add, get_or-drop}
use mathlib.Core.List.{List, [], ◌∷◌, ◌++◌, map}
use Prim.Native.Nat.{ℕ, zero, suc, ◌+◌, ◌-◌, ◌*◌, ◌<◌, ◌≤◌}
use native.Mathlib.Omega.{arith}
use Rattle.std.proofs.Math.ListN.{length, get_or, drop, length-map}
use Rattle.model.specs.Lists.{All, range}
use Rattle.model.specs.Node.{Node, words_of}
use Rattle.model.specs.State.{State, put_node}
use Rattle.model.specs.Sound.{shape_in, inners_reached}
use Rattle.model.specs.declared.shape.Shape.{Shape}
use Rattle.model_laws.specs.Words.{get_d_after}
use Rattle.model_laws.specs.Nodes.{Formed}
use Rattle.model_laws.specs.Areas.{length_is}
use Rattle.model_theory.specs.RepairTrusted.{TrustedCoherent, LongAreas}
use Rattle.model_theory.specs.RepairLists.{length_range}
use Rattle.model.specs.Mend.{put_all, put_each, home_of, leaf_anew, inner_anew, mend}
use Rattle.model_theory.specs.RepairWords.{length_all, length_each, within, leaf_anew_law, inner_anew_law, leaf_room, inner_room, length_homes}

module _ (g : Shape) (e : g.size ≡ 3 + g.fan * g.stride) (f : ℕ → Node) (m : ℕ) (formed : (k : ℕ) → k < m → Formed g.stride g.fan (f k)) (area : List ℕ) (h : m * g.size ≤ length area) (p : ℕ) (q : m * g.size ≤ p) where
  one_else : (k : ℕ) (now : List ℕ) → k < m → length now ≡ length area → get_or (put_node g k (f k) now) p 0 ≡ get_or now p 0
  one_else k now l n =
      let r : k * g.size + g.size ≤ length now = rw n (within g k m (length area) l h) in
      let s : length (words_of (f k)) ≡ g.size = length_is g k now e r (f k) (formed k l) in
      let o : k * g.size + g.size ≤ m * g.size = within g k m (m * g.size) l (omega arith) in
      get_d_after (k * g.size) p (words_of (f k)) now (omega arith) (omega arith)

  pub all_else : (n : ℕ) → n ≤ m → get_or (put_all g f n area) p 0 ≡ get_or area p 0
  unfolding put_all
  all_else zero l = refl
  all_else (suc n) l = one_else n (put_all g f n area) l (length_all g e f m formed area h n (omega arith)) ∙ all_else n (omega arith)

  pub each_else : (ks : List ℕ) → All (λ k. k < m) ks → get_or (put_each g f ks area) p 0 ≡ get_or area p 0
  unfolding put_each All
  each_else [] a = refl
  each_else (k ∷ ks) a = one_else k (put_each g f ks area) a.0 (length_each g e f m formed area h ks a.1) ∙ each_else ks a.1

-- and the areas are as long as they were
module _ (s e : ℕ) (hs : 0 < s) (t : State) (f : TrustedCoherent s t) (areas : LongAreas s t) where
  pub leaves_long : length (mend s t).leaves ≡ length t.leaves
  unfolding mend
  leaves_long = length_all (shape_in s t) refl (leaf_anew s t) t.head.leaves (leaf_anew_law s e hs t f areas) t.leaves (leaf_room s e hs t f areas) t.head.leaves (omega arith)

  pub inners_long : length (mend s t).inners ≡ length t.inners
  unfolding mend
  inners_long = length_each (shape_in s t) refl (inner_anew s t) t.head.inners (inner_anew_law s e hs t f areas) t.inners (inner_room s e hs t f areas) (inners_reached s t) f.inners_once.below

  pub homes_long : length (mend s t).homes ≡ length t.homes
  unfolding mend
  homes_long = length_homes s e hs t f areas

module _ (s e : ℕ) (hs : 0 < s) (t : State) (f : TrustedCoherent s t) (areas : LongAreas s t) (p : ℕ) where
  pub leaves_else : t.head.leaves * (shape_in s t).size ≤ p → get_or (mend s t).leaves p 0 ≡ get_or t.leaves p 0
  unfolding mend
  leaves_else q = all_else (shape_in s t) refl (leaf_anew s t) t.head.leaves (leaf_anew_law s e hs t f areas) t.leaves (leaf_room s e hs t f areas) p q t.head.leaves (omega arith)

  pub inners_else : t.head.inners * (shape_in s t).size ≤ p → get_or (mend s t).inners p 0 ≡ get_or t.inners p 0
  unfolding mend
  inners_else q = each_else (shape_in s t) refl (inner_anew s t) t.head.inners (inner_anew_law s e hs t f areas) t.inners (inner_room s e hs t f areas) p q (inners_reached s t) f.inners_once.below

  pub homes_else : t.head.entries ≤ p → get_or (mend s t).homes p 0 ≡ get_or t.homes p 0
  unfolding mend
  homes_else q =
      let front : length (map (home_of s t) (range 0 t.head.entries)) ≡ t.head.entries = length-map (range 0 t.head.entries) (home_of s t) ∙ length_range 0 t.head.entries in
      let n : length (map (home_of s t) (range 0 t.head.entries)) + (p - t.head.entries) ≡ p = omega arith in
      let o : t.head.entries + (p - t.head.entries) ≡ p = omega arith in
      ap (λ (j : ℕ). get_or (map (home_of s t) (range 0 t.head.entries) ++ drop t.head.entries t.homes) j 0) (sym n)
      ∙ (get_or-append-add (map (home_of s t) (range 0 t.head.entries)) (drop t.head.entries t.homes) (p - t.head.entries) 0
      ∙ (get_or-drop t.head.entries t.homes (p - t.head.entries) 0 ∙ ap (λ (j : ℕ). get_or t.homes j 0) o))
