-- What `add_child` knows on its way and has at its returns, as laws over plain variables: w is the shape that the sizes make, t the three
-- words of the top. Assumes nothing.
use Rattle.std.specs.Prelude.{Some, None, Option}
use mathlib.Core.Path.{◌≡◌, refl, sym, ap, ◌∙◌}
use mathlib.Core.List.{List}
use Prim.Native.Nat.{ℕ, ◌-◌, ◌*◌, ◌<◌, ◌≤◌}
use native.Mathlib.Omega.{arith}
use lib.ListN.{length, get_or}
use Rattle.model.specs.Lists.{part}
use Rattle.model.specs.Node.{node_of, half}
use Rattle.model.specs.Grow.{Areas, areas, linked, Grown, grown, link, link_half, split_node, add_to, above_of}
use Rattle.model.specs.declared.shape.Shape.{Shape}
use Rattle.model_laws.specs.Grow.{half_bad, half_low, half_high}
use Rattle.tree_links.specs.Fits.{AreasHold, NodeRoom}
use Rattle.tree_links.specs.Tops.{top_in, grown_in}
use Rattle.tree_links.specs.Standing.{standing}
use Rattle.tree_links.proofs.AddSteps.{GoodPlace, good_place, topped_by, add_missing, add_room, add_none, add_split, halves}

-- g is the shape w, made anew
module _ {w g : Shape} (e : g ≡ w) where
  pub as_made : (used level p after new : ℕ) (a : Areas) (s q : Option ℕ) → s ≡ q → s ≡ standing g used level p after new a → q ≡ standing w used level p after new a
  as_made used level p after new a s q m r = sym m ∙ r ∙ ap (λ (h : Shape). standing h used level p after new a) e

  pub count_as : (p len : ℕ) (xs : List ℕ) → len ≡ get_or (part (p * g.size) g.size xs) 0 0 → len ≡ get_or (part (p * w.size) w.size xs) 0 0
  count_as p len xs q = q ∙ ap (λ (h : Shape). get_or (part (p * h.size) h.size xs) 0 0) e

module _ (w : Shape) (left : ℕ) (t : List ℕ) (level p after new : ℕ) (ls xs : List ℕ) where
  -- what comes of it
  abbrev pub added : Grown
  added = add_to w (above_of w left) (top_in t) level p after new (areas ls xs)

  pub astray : None ≡ standing w (get_or t 0 0) level p after new (areas ls xs) → grown_in 9 t ls xs ≡ added
  astray s = add_missing w (above_of w left) (top_in t) level p after new (areas ls xs) s

  -- the place i is found, and inner node p has len slots in use
  pub record PlaceFound (i len : ℕ) : Type 0 where
    pub fits : AreasHold w (length ls) (length xs)
    pub used : get_or t 0 0 ≤ w.nodes
    pub three : length t ≡ 3
    pub slot : Some i ≡ standing w (get_or t 0 0) level p after new (areas ls xs)
    pub count : len ≡ get_or (part (p * w.size) w.size xs) 0 0

  -- node new gets its slot behind place at of inner node to; all is ls₁, xs₁ and u by then
  pub record ReadyToLink (to at : ℕ) (u ls₁ xs₁ : List ℕ) : Type 0 where
    pub fits : AreasHold w (length ls₁) (length xs₁)
    pub node : to < w.nodes
    pub fresh : new < w.nodes
    pub room : NodeRoom w to at xs₁
    pub same_leaves : length ls₁ ≡ length ls
    pub same_inners : length xs₁ ≡ length xs
    pub three : length u ≡ 3
    pub done : topped_by (top_in u) (link w level to at new (areas ls₁ xs₁)) ≡ added

module _ {w : Shape} {left : ℕ} {t : List ℕ} {level p after new : ℕ} {ls xs : List ℕ} where
  pub moved : {to at to₁ at₁ : ℕ} {u ls₂ xs₂ u₁ ls₁ xs₁ : List ℕ} → ls₂ ≡ ls₁ → xs₂ ≡ xs₁ → u ≡ u₁ → to ≡ to₁ → at ≡ at₁ → ReadyToLink w left t level p after new ls xs to₁ at₁ u₁ ls₁ xs₁
      → ReadyToLink w left t level p after new ls xs to at u ls₂ xs₂
  moved el ex eu et ea o = rw (el, ex, eu, et, ea) o

  pub ended : {g : Shape} {to at : ℕ} {u ls₁ xs₁ : List ℕ} {r : ℕ} {b : Areas} → g ≡ w → ReadyToLink w left t level p after new ls xs to at u ls₁ xs₁ → linked r b ≡ link g level to at new (areas ls₁ xs₁)
      → grown r (top_in u) b ≡ added w left t level p after new ls xs
  ended {g} {to} {at} {u} {ls₁} {xs₁} e o q = ap (topped_by (top_in u)) (q ∙ ap (λ (h : Shape). link h level to at new (areas ls₁ xs₁)) e) ∙ o.done

  module _ {i len : ℕ} (f : PlaceFound w left t level p after new ls xs i len) where
    o : GoodPlace w (get_or t 0 0) level p after new (areas ls xs) i
    o = good_place w (get_or t 0 0) level p after new (areas ls xs) i f.slot

    -- a node that isn't full
    module _ (h : len ≡ w.fan → ⊥) where
      short : len < w.fan
      unfolding node_of
      short = omega (arith, h, o.full, f.count)

      space : NodeRoom w p i xs
      unfolding node_of
      space = record { place = o.place; space = omega (arith, short, f.count) }

      pub ready_here : ReadyToLink w left t level p after new ls xs p i t ls xs
      ready_here =
          record {
            fits = f.fits;
            node = omega (arith, o.node, f.used);
            fresh = o.fresh;
            room = space;
            same_leaves = refl;
            same_inners = refl;
            three = f.three;
            done = add_room w (above_of w left) (top_in t) level p after new (areas ls xs) i len f.slot f.count short;
          }

    -- a full one: no node is left, or it is divided
    module _ (h : len ≡ w.fan) where
      pub crowded : w.nodes ≤ get_or t 0 0 → grown_in 9 t ls xs ≡ added w left t level p after new ls xs
      crowded m = add_none w (above_of w left) (top_in t) level p after new (areas ls xs) i len f.slot f.count (omega (arith, h)) m

      module _ (m : get_or t 0 0 < w.nodes) (n : ℕ) (u ls₁ xs₁ : List ℕ) (r : grown_in n u ls₁ xs₁ ≡ split_node w (above_of w left) (top_in t) level p (areas ls xs)) where
        onward : link_half w level p (get_or t 0 0) i new (grown_in n u ls₁ xs₁) ≡ added w left t level p after new ls xs
        onward =
            ap (link_half w level p (get_or t 0 0) i new) r
            ∙ add_split w (above_of w left) (top_in t) level p after new (areas ls xs) i len f.slot f.count (omega (arith, h)) m

        pub failed : (n ≡ 0 → ⊥) → grown_in n u ls₁ xs₁ ≡ added w left t level p after new ls xs
        failed d = half_bad w level p (get_or t 0 0) i new (grown_in n u ls₁ xs₁) d ∙ onward

        module _ (z : n ≡ 0) (kl : length ls₁ ≡ length ls) (kx : length xs₁ ≡ length xs) (k3 : length u ≡ 3) where
          rooms : (i < half w.fan → NodeRoom w p i xs₁) × (half w.fan ≤ i → NodeRoom w (get_or t 0 0) (i - half w.fan) xs₁)
          rooms = halves w left (top_in t) level p i ls xs (grown_in n u ls₁ xs₁) f.fits o.node m (omega (arith, o.place, o.full)) r

          fit : AreasHold w (length ls₁) (length xs₁)
          fit = rw (kl, kx) f.fits

          pub ready_low : i < half w.fan → ReadyToLink w left t level p after new ls xs p i u ls₁ xs₁
          ready_low l =
              record {
                fits = fit;
                node = omega (arith, o.node, f.used);
                fresh = o.fresh;
                room = rooms.0 l;
                same_leaves = kl;
                same_inners = kx;
                three = k3;
                done = half_low w level p (get_or t 0 0) i new (grown_in n u ls₁ xs₁) z l ∙ onward;
              }

          pub ready_high : half w.fan ≤ i → ReadyToLink w left t level p after new ls xs (get_or t 0 0) (i - half w.fan) u ls₁ xs₁
          ready_high l =
              record {
                fits = fit;
                node = m;
                fresh = o.fresh;
                room = rooms.1 l;
                same_leaves = kl;
                same_inners = kx;
                three = k3;
                done = half_high w level p (get_or t 0 0) i new (grown_in n u ls₁ xs₁) z l ∙ onward;
              }
