-- Nodes of an area written anew: two of them in either order, and one whose part was lent. Assumes nothing.
use Rattle.std.specs.Prelude.{◌≡◌, refl, List, ◌++◌, ℕ, ◌+◌, ◌-◌, ◌*◌, ◌<◌, ◌≤◌, length, take, drop}
use Rattle.std.proofs.Common.{sym, ap, ◌∙◌, append_assoc, arith, length-append}
use borrow.Rule.Slice.PartMut.{put_mid}
use Rattle.model.specs.Lists.{part, put_at}
use Rattle.model.specs.Node.{Node, node_of, words_of}
use Rattle.model.specs.State.{node_at, put_node}
use Rattle.model.specs.declared.shape.Shape.{Shape}
use Rattle.model_laws.specs.Lists.{row_end}
use Rattle.model_laws.specs.Words.{length_part, put_same, put_next, put_prev, lent, lent_back}
use Rattle.model_laws.specs.Nodes.{Formed, length_words}

-- two writes that lie apart
pub put_swap : (p q : ℕ) (xs ys ws : List ℕ) → p + length xs ≤ q → q + length ys ≤ length ws → put_at p xs (put_at q ys ws) ≡ put_at q ys (put_at p xs ws)
put_swap p q xs ys ws d h =
    let r : ℕ = p + length xs in
    let b : List ℕ = part (p + length xs) (q - (p + length xs)) ws in
    let lb : length (part (p + length xs) (q - (p + length xs)) ws) ≡ q - (p + length xs) = length_part (p + length xs) (q - (p + length xs)) ws (omega arith) in
    let s : put_at r b ws ≡ ws = put_same (p + length xs) (q - (p + length xs)) ws (omega arith) in
    let one : put_at q ys ws ≡ put_at r (b ++ ys) ws = ap (put_at q ys) (sym s) ∙ put_next r q b ys ws (omega arith) h in
    let two : put_at p xs ws ≡ put_at p (xs ++ b) ws = ap (put_at p xs) (sym s) ∙ put_prev p r xs b ws refl (omega arith) in
    ap (put_at p xs) one ∙ put_prev p r xs (b ++ ys) ws refl (rw length-append (omega arith))
    ∙ ap (λ (l : List ℕ). put_at p l ws) (sym (append_assoc xs b ys))
    ∙ sym (ap (put_at q ys) two ∙ put_next p q (xs ++ b) ys ws (rw length-append (omega arith)) h)

pub nodes_swap : (g : Shape) (k j : ℕ) (m n : Node) (xs : List ℕ) → g.size ≡ 3 + g.fan * g.stride → Formed g.stride g.fan m → Formed g.stride g.fan n
    → k < j → j * g.size + g.size ≤ length xs → put_node g k m (put_node g j n xs) ≡ put_node g j n (put_node g k m xs)
nodes_swap g k j m n xs e f h l r =
    put_swap (k * g.size) (j * g.size) (words_of m) (words_of n) xs (omega (arith, length_words g.stride g.fan m f, row_end k j g.size l)) (omega (arith, length_words g.stride g.fan n h))

-- a node's part that is lent, and the area when it is back as ys: another node, a change of the node
module _ (g : Shape) (k : ℕ) (xs ys : List ℕ) (h : k * g.size + g.size ≤ length xs) (l : length ys ≡ length (take (k * g.size + g.size - k * g.size) (drop (k * g.size) xs))) where
  pub node_back : (n : Node) → ys ≡ words_of n → put_mid (k * g.size) (k * g.size + g.size - k * g.size) xs ys ≡ put_node g k n xs
  node_back n q = lent_back (k * g.size) g.size xs ys h l ∙ ap (λ (y : List ℕ). put_at (k * g.size) y xs) q

  pub change_back : (f : Node → Node) → ys ≡ words_of (f (node_of g.stride g.fan (take (k * g.size + g.size - k * g.size) (drop (k * g.size) xs))))
      → put_mid (k * g.size) (k * g.size + g.size - k * g.size) xs ys ≡ put_node g k (f (node_at g k xs)) xs
  change_back f q = node_back (f (node_at g k xs)) (q ∙ ap (λ (y : List ℕ). words_of (f (node_of g.stride g.fan y))) (lent (k * g.size) g.size xs))
