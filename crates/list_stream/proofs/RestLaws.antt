-- Bytes moved to the start of a buffer one by one; a tail's line; bytes read behind those that are kept. Assumes nothing.
use mathlib.Core.Bool.{Bool, true, false, cond}
use mathlib.Core.Path.{◌≡◌, refl, sym, ap, ◌∙◌}
use mathlib.Core.List.{List, [], ◌∷◌, ◌++◌}
use Prim.Native.Nat.{ℕ, suc, ◌+◌, ◌-◌, ◌≤◌, ◌<◌}
use native.Mathlib.Omega.{arith}
use borrow.Author.Tests.{eq-eqb, ne_eqb}
use lib.ListN.{length, take, drop, get_or, set, length-drop}
use lib.Dec.{eqb}
use lib.Seq.{sets, take-suc, get_or-drop, get_or-set_other, length-take-le}
use Rattle.model.specs.Lists.{part}
use Rattle.model.specs.Row.{refused}
use Rattle.list_records.specs.Said.{answer_of}
use Rattle.list_stream.specs.Text.{line, put}
use Rattle.list_stream.proofs.TextLaws.{behind, line_short, after, put_nil, put_one, put_more}
use Rattle.list_stream.specs.Shown.{tail}

-- the bytes behind what is written are as they were
behind_sets : (xs out : List ℕ) (at k d : ℕ) → at + length xs ≤ k → get_or (sets out at xs) k d ≡ get_or out k d
behind_sets [] out at k d h = refl
behind_sets (x ∷ xs) out at k d h = behind_sets xs (set out at x) (suc at) k d (omega arith) ∙ get_or-set_other out at k x d (λ e. omega arith)

-- one byte more
pub keep_more : (block b : List ℕ) (from i n : ℕ) → from + n ≤ length block → i < n → (i, b) ≡ put block 0 (part from i block)
    → (i + 1, set b i (get_or b (from + i) 0)) ≡ put block 0 (part from (i + 1) block)
unfolding part
keep_more block b from i n h l e =
    let xs = take i (drop from block) in
    let long : i < length (drop from block) = omega (arith, length-drop from block) in
    let same : get_or b (from + i) 0 ≡ get_or (drop from block) i 0 =
    ap (λ (z : List ℕ). get_or z (from + i) 0) (after block b 0 i xs e) ∙ behind_sets xs block 0 (from + i) 0 (omega (arith, length-take-le i (drop from block) (omega arith)))
    ∙ sym (get_or-drop from block i 0) in
    let one : i + 1 ≡ suc i = omega arith in
    put_one b i (get_or b (from + i) 0)
    ∙ put_more block b 0 i xs (get_or b (from + i) 0 ∷ []) e
    ∙ ap (λ (v : ℕ). put block 0 (xs ++ (v ∷ []))) same
    ∙ ap (put block 0) (sym (take-suc (drop from block) i 0 long))
    ∙ ap (λ (k : ℕ). put block 0 (take k (drop from block))) (sym one)

pub keep_none : (block : List ℕ) (from : ℕ) → (0, block) ≡ put block 0 (part from 0 block)
unfolding part
keep_none block from = sym (put_nil block 0)

-- a tail or none
pub no_tail : (stray : ℕ) (out : List ℕ) → stray ≡ 0 → (0, out) ≡ put out 0 (tail stray)
unfolding tail
no_tail stray out e = rw (eq-eqb stray 0 e) (sym (put_nil out 0))

pub a_tail : (stray r : ℕ) (out o : List ℕ) → (stray ≡ 0 → ⊥) → (r, o) ≡ put out 0 (line (answer_of (refused 11))) → (r, o) ≡ put out 0 (tail stray)
unfolding tail
a_tail stray r out o n e = rw (ne_eqb stray 0 n) e

pub tail_short : (stray r : ℕ) (out o : List ℕ) → (r, o) ≡ put out 0 (tail stray) → r ≤ 44
unfolding tail
tail_short stray r out o e = go (eqb stray 0) (behind out o 0 r (tail stray) e)
  where
    go : (b : Bool) → r ≡ 0 + length (cond b [] (line (answer_of (refused 11)))) → r ≤ 44
    go true q = omega arith
    go false q = omega (arith, q, line_short (answer_of (refused 11)))

-- what was read fits the block
pub within : (kept n : ℕ) (block : List ℕ) → kept ≤ length block → n ≤ length (take (length block - kept) (drop kept block)) → kept + n ≤ length block
within kept n block h k = omega (arith, length-drop kept block, length-take-le (length block - kept) (drop kept block) (omega (arith, length-drop kept block)))
