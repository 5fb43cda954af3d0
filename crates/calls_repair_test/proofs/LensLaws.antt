-- The test of a leaf slot, and of a leaf. Assumes nothing.
use mathlib.Core.Path.{◌≡◌, sym, ap, ap₂, ◌∙◌}
use mathlib.Core.Bool.{Bool, true, false, not, ◌&&◌}
use mathlib.Core.List.{List, []}
use Prim.Native.Nat.{ℕ, suc, ◌-◌}
use native.Mathlib.Omega.{arith}
use lib.ListN.{get_or}
use lib.Dec.{leb}
use Rattle.model.specs.Kind.{stride, kind_of, too_many_lines, crossed}
use Rattle.model.specs.Node.{lengths}
use Rattle.model.specs.State.{state, node_at}
use Rattle.model.specs.Refuse.{shape_of}
use Rattle.model.specs.Sound.{leaf_in, least_leaf, least_inner}
use Rattle.model.specs.Audit.{every}
use Rattle.model.specs.Mend.{is_long, is_fit_slot, is_fit_inner}
use Rattle.model.specs.declared.shape.Kind.{Kind}
use Rattle.model.specs.declared.shape.Shape.{Shape}
use Rattle.model.specs.declared.head.Head.{Head}

pub fit_lines : (K : Kind) (x l : List ℕ) (b : Bool) → l ≡ lengths x → b ≡ too_many_lines K l → b ≡ true → false ≡ is_fit_slot K x
fit_lines K x l b e q t = sym (ap (λ (y : List ℕ). not (too_many_lines K y) && not (crossed K y)) (sym e) ∙ ap (λ (z : Bool). not z && not (crossed K l)) (sym q ∙ t))

pub fit_crossed : (K : Kind) (x l : List ℕ) (b c : Bool) → l ≡ lengths x → b ≡ too_many_lines K l → b ≡ false → c ≡ crossed K l → not c ≡ is_fit_slot K x
fit_crossed K x l b c e q t w = sym (ap (λ (y : List ℕ). not (too_many_lines K y) && not (crossed K y)) (sym e) ∙ ap₂ (λ (y : Bool) (z : Bool). not y && not z) (sym q ∙ t) (sym w))

pub and_first : (a b c : Bool) → c ≡ a → c ≡ false → false ≡ (a && b)
and_first a b c p q = rw (sym p ∙ q)

pub and_second : (a b c d : Bool) → c ≡ a → c ≡ true → d ≡ b → d ≡ (a && b)
and_second a b c d p q r = rw (sym p ∙ q, sym r)

-- slot i of leaf k
abbrev pub fits_at : Shape → Bool → ℕ → List ℕ → ℕ → Bool
fits_at g ordered k leaves i = is_fit_slot (kind_of (g.stride - 1) 0 ordered) (get_or (node_at g k leaves).slots i [])

pub inner_by_law : (K : Kind) (h : Head) (xs : List ℕ) (g : Shape) (k len least : ℕ) (b : Bool) → g ≡ shape_of K h → len ≡ (node_at g k xs).len → least ≡ least_inner (stride K) (state h [] [] []) k
    → b ≡ (leb least len && leb len h.fan) → b ≡ is_fit_inner K (state h [] xs []) k
inner_by_law K h xs g k len least b e el ea eb = eb ∙ ap₂ (λ (x : ℕ) (y : ℕ). leb x y && leb y h.fan) ea (el ∙ ap (λ (z : Shape). (node_at z k xs).len) e)

pub leaf_long : (K : Kind) (h : Head) (ls : List ℕ) (g : Shape) (k len least : ℕ) (b : Bool) → g ≡ shape_of K h → len ≡ (node_at g k ls).len → least ≡ least_leaf (stride K) (state h [] [] [])
    → b ≡ (leb least len && leb len h.fan) → b ≡ is_long (stride K) (state h ls [] []) (least_leaf (stride K) (state h ls [] [])) (leaf_in (stride K) (state h ls [] []) k)
leaf_long K h ls g k len least b e el ea eb = eb ∙ ap₂ (λ (x : ℕ) (y : ℕ). leb x y && leb y h.fan) ea (el ∙ ap (λ (z : Shape). (node_at z k ls).len) e)

pub leaf_slots_law : (views effect : ℕ) (ordered : Bool) (h : Head) (ls : List ℕ) (g : Shape) (k len : ℕ) → g ≡ shape_of (kind_of views effect ordered) h → len ≡ (node_at g k ls).len
    → every (fits_at g ordered k ls) 0 len
    ≡ every (λ i. is_fit_slot (kind_of views effect ordered) (get_or (leaf_in (suc views) (state h ls [] []) k).slots i [])) 0 (leaf_in (suc views) (state h ls [] []) k).len
leaf_slots_law views effect ordered h ls g k len e el =
    let v : suc views - 1 ≡ views = omega arith in
    let own : Shape = shape_of (kind_of views effect ordered) h in
    ap (every (fits_at g ordered k ls) 0) el ∙ ap (λ (z : Shape). every (fits_at z ordered k ls) 0 (node_at z k ls).len) e
    ∙ ap (λ (x : ℕ). every (λ i. is_fit_slot (kind_of x 0 ordered) (get_or (node_at own k ls).slots i [])) 0 (node_at own k ls).len) v
