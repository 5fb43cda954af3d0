-- What `split_node` has at its returns, each as one law over plain variables: t holds the three words of the top. Assumes nothing.
use mathlib.Core.Path.{◌≡◌, ap, ◌∙◌}
use mathlib.Core.List.{List}
use Prim.Native.Nat.{ℕ, ◌+◌, ◌-◌, ◌*◌}
use lib.ListN.{length, get_or, set, length-set}
use Rattle.model.specs.Lists.{part}
use Rattle.model.specs.Grow.{Areas, areas, linked, Top, top, Grown, grown, divide, grow_root, split_node, add_to, above_of}
use Rattle.model.specs.declared.shape.Shape.{Shape}
use Rattle.model_laws.specs.Grow.{split_bad, split_ok, above_none, above_more}
use Rattle.tree_links.specs.Tops.{top_in, top_used}

-- one more inner node in use, as the words have it
abbrev pub counted : List ℕ → List ℕ
counted t = set t 0 (get_or t 0 0 + 1)

module _ (t : List ℕ) (l : length t ≡ 3) where
  pub three : length (counted t) ≡ 3
  three = simp length-set l

  pub used_more : get_or (counted t) 0 0 ≡ get_or t 0 0 + 1
  used_more = ap (λ (u : Top). u.inners) (top_used t (get_or t 0 0 + 1) l)

  pub levels_same : get_or (counted t) 2 0 ≡ get_or t 2 0
  levels_same = ap (λ (u : Top). u.levels) (top_used t (get_or t 0 0 + 1) l)

  module _ (w : Shape) (left level k : ℕ) (ls xs : List ℕ) (n : ℕ) (b : Areas) (e : linked n b ≡ divide w level k (get_or t 0 0) (areas ls xs)) where
    pub cut_bad : (n ≡ 0 → ⊥) → grown n (top_in (counted t)) b ≡ split_node w (above_of w left) (top_in t) level k (areas ls xs)
    cut_bad h =
        ap (λ (u : Top). grown n u b) (top_used t (get_or t 0 0 + 1) l)
        ∙ split_bad w (above_of w left) (top_in t) level k (areas ls xs) b n e h

    module _ (r : Grown) (z : n ≡ 0) where
      pub cut_root : left ≡ 0 → r ≡ grow_root w (top_in (counted t)) k (get_or t 0 0) b → r ≡ split_node w (above_of w left) (top_in t) level k (areas ls xs)
      cut_root h q =
          q ∙ ap (λ (u : Top). grow_root w u k (get_or t 0 0) b) (top_used t (get_or t 0 0 + 1) l)
          ∙ above_none w (top (get_or t 0 0 + 1) (get_or t 1 0) (get_or t 2 0)) k (get_or t 0 0) b left h
          ∙ split_ok w (above_of w left) (top_in t) level k (areas ls xs) b n e z

      -- g is the shape w, made anew
      pub cut_up : (g : Shape) (up : ℕ) → (left ≡ 0 → ⊥) → g ≡ w → up ≡ get_or (part (k * g.size) g.size b.inners) 1 0
          → r ≡ add_to w (above_of w (left - 1)) (top_in (counted t)) 2 up k (get_or t 0 0) b
          → r ≡ split_node w (above_of w left) (top_in t) level k (areas ls xs)
      cut_up g up h eg eu q =
          q ∙ ap (λ (u : Top). add_to w (above_of w (left - 1)) u 2 up k (get_or t 0 0) b) (top_used t (get_or t 0 0 + 1) l)
          ∙ above_more w (top (get_or t 0 0 + 1) (get_or t 1 0) (get_or t 2 0)) k (get_or t 0 0) b left up h (eu ∙ ap (λ (s : Shape). get_or (part (k * s.size) s.size b.inners) 1 0) eg)
          ∙ split_ok w (above_of w left) (top_in t) level k (areas ls xs) b n e z
