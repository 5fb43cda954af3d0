-- Half of a node moved into another in their area, as the code does it. Assumes nothing.
use Rattle.std.proofs.Common.{◌≡◌, ℕ, suc, ◌+◌, ◌-◌, ◌*◌, ◌<◌, ◌≤◌, List, [], ◌∷◌, length, get_or, set, sym, refl, ap, ◌∙◌, add-zero, arith}
use lib.ListN.{length-replicate}
use Rattle.model.specs.Lists.{part, put_at}
use Rattle.model.specs.Node.{node_of, empty_slot, empty_slots, half, lower_half, upper_half}
use Rattle.model.specs.State.{shape_for, node_at, put_node}
use Rattle.model.specs.declared.shape.Shape.{Shape}
use Rattle.model_laws.specs.Lists.{rows_between, row_end}
use Rattle.model_laws.specs.Words.{length_part, length_put, part_same, set_put, put_put, put_inside}
use Rattle.model_laws.specs.Slots.{flat, length_flat}
use Rattle.model_laws.specs.Formed.{kept, empty_wide}
use Rattle.model_laws.specs.Changes.{lower_words}
use Rattle.model_laws.specs.Areas.{length_node, split_area}

-- a write inside the part from word a on, and then its first word, are a write of the part
set_inside : (a n c m : ℕ) (xs ws : List ℕ) → a + n ≤ length ws → c + length xs ≤ n → 0 < n → set (put_at (a + c) xs ws) a m ≡ put_at a (set (put_at c xs (part a n ws)) 0 m) ws
set_inside a n c m xs ws h g k =
    let x : List ℕ = put_at c xs (part a n ws) in
    let lp : length (part a n ws) ≡ n = length_part a n ws h in
    let lx : length x ≡ n = length_put c xs (part a n ws) (omega arith) ∙ lp in
    let lw : length (put_at a x ws) ≡ length ws = length_put a x ws (omega arith) in
    let z : a + 0 ≡ a = add-zero a in
    let p : part a n (put_at a x ws) ≡ x = rw lx at (part_same a x ws (omega arith)) in
    let i : put_at a (put_at 0 (m ∷ []) (part a n (put_at a x ws))) (put_at a x ws) ≡ put_at a (m ∷ []) (put_at a x ws) = put_inside a n 0 (m ∷ []) (put_at a x ws) (omega arith) (omega arith) ∙ ap (λ (q : ℕ). put_at q (m ∷ []) (put_at a x ws)) z in
    let l0 : length (put_at 0 (m ∷ []) x) ≡ length x = length_put 0 (m ∷ []) x (omega arith) in
    ap (λ (l : List ℕ). set l a m) (sym (put_inside a n c xs ws h g))
    ∙ set_put a m (put_at a x ws) (omega arith)
    ∙ sym i
    ∙ ap (λ (l : List ℕ). put_at a (put_at 0 (m ∷ []) l) (put_at a x ws)) p
    ∙ put_put a x (put_at 0 (m ∷ []) x) ws l0 (omega arith)
    ∙ ap (λ (l : List ℕ). put_at a l ws) (sym (set_put 0 m x (omega arith)))

-- node k keeps its lower slots: those above are emptied where they stand, and their number is written
lower_node : (g : Shape) (k : ℕ) (ws now : List ℕ) → 0 < g.stride → g.size ≡ 3 + g.fan * g.stride → k * g.size + g.size ≤ length ws
    → now ≡ put_at (k * g.size + 3 + half g.fan * g.stride) (flat (empty_slots g.stride (g.fan - half g.fan))) ws
    → set now (k * g.size) (half g.fan) ≡ put_node g k (lower_half g.stride g.fan (node_at g k ws)) ws
unfolding lower_half node_of
lower_node g k ws now hs e h en =
    let xs : List ℕ = flat (empty_slots g.stride (g.fan - half g.fan)) in
    let p : ℕ = 3 + half g.fan * g.stride in
    let l : length xs ≡ (g.fan - half g.fan) * g.stride = length_flat g.stride (empty_slots g.stride (g.fan - half g.fan)) (empty_wide g.stride (g.fan - half g.fan) hs)
    ∙ ap (λ (m : ℕ). m * g.stride) (length-replicate (g.fan - half g.fan) (empty_slot g.stride)) in
    let q : k * g.size + 3 + half g.fan * g.stride ≡ k * g.size + p = omega arith in
    let f : half g.fan * g.stride + (g.fan - half g.fan) * g.stride ≡ g.fan * g.stride = rows_between (half g.fan) g.fan g.stride (omega arith) in
    ap (λ (y : List ℕ). set y (k * g.size) (half g.fan)) (en ∙ ap (λ (i : ℕ). put_at i xs ws) q)
    ∙ set_inside (k * g.size) g.size p (half g.fan) xs ws h (omega arith) (omega arith)
    ∙ ap (λ (y : List ℕ). put_at (k * g.size) y ws) (lower_words g.stride g.fan (part (k * g.size) g.size ws) (length_node g k ws e h) (half g.fan) hs (omega arith))

-- the area after the three writes; r is the shape, of which the code knows no more than that it is equal
pub split_off_area : (views fan nodes k j : ℕ) (r : Shape) (area one two three : List ℕ) → r ≡ shape_for views fan nodes → k < j → j * r.size + r.size ≤ length area → length two ≡ length area
    → one ≡ put_at (k * r.size + 3 + half fan * r.stride + (j * r.size + 3 - (k * r.size + 3 + half fan * r.stride)))
    (part (k * r.size + 3 + half fan * r.stride) (k * r.size + r.size - (k * r.size + 3 + half fan * r.stride)) area) area
    → two ≡ put_node r j (kept r.stride r.fan (fan - half fan) (get_or area (k * r.size + 1) 0) 0 (node_at r j one)) one
    → three ≡ put_at (k * r.size + 3 + half fan * r.stride) (flat (empty_slots r.stride (fan - half fan))) two
    → set three (k * r.size) (half fan) ≡ put_node (shape_for views fan nodes) k (lower_half (suc views) fan (node_at (shape_for views fan nodes) k area))
    (put_node (shape_for views fan nodes) j (upper_half (suc views) fan (node_at (shape_for views fan nodes) k area)) area)
split_off_area views fan nodes k j r area one two three er hk hj l e1 e2 e3 =
    rw er
    (split_area (shape_for views fan nodes) k j area (omega arith) refl hk (rw er at hj) one two _ (rw er at e1) (rw er at e2)
    (lower_node (shape_for views fan nodes) k two three (omega arith) refl (omega (arith, row_end k j (3 + fan * suc views) hk, rw er at hj)) (rw er at e3)))
