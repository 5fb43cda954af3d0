-- What bytes behind the kept ones are answered: the text fits its room, and fewer than sixteen bytes are kept. Assumes nothing.
use Rattle.std.specs.Prelude.{Option, Some}
use mathlib.Core.Path.{◌≡◌, sym, ap, ◌∙◌, subst}
use mathlib.Core.Bool.{Bool, true, false, cond}
use mathlib.Core.List.{List}
use Prim.Native.Nat.{ℕ, ◌+◌, ◌*◌, ◌/◌, ◌<◌, ◌≤◌}
use native.Mathlib.Omega.{arith}
use lib.Dec.{eqb}
use borrow.Author.Tests.{eq-eqb, ne_eqb}
use Rattle.model.specs.State.{State, state}
use Rattle.model.specs.declared.head.Head.{Head}
use Rattle.list_stream.specs.Text.{put}
use Rattle.list_stream.specs.Shown.{Fed, fed_of, feed, tail}
use Rattle.list_stream.proofs.FeedLaws.{fed_short, kept_few}
use Rattle.list_stream.proofs.RestLaws.{tail_short}
use Rattle.rowrun.specs.Turn.{answered, Turned}

-- the end of the input
pub none_read : (s : State) (block : List ℕ) (kept n : ℕ) (out : List ℕ) → n ≡ 0 → (end : ℕ) (o : List ℕ) → (end, o) ≡ put out 0 (tail kept) → fed_of s end o kept block ≡ answered s block kept n out
unfolding answered
none_read s block kept n out z end o e = rw (eq-eqb n 0 z) (ap (λ (w : ℕ × List ℕ). fed_of s w.0 w.1 kept block) e)

some_read : (s : State) (block : List ℕ) (kept n : ℕ) (out : List ℕ) → (n ≡ 0 → ⊥) → answered s block kept n out ≡ feed s block (kept + n) out
unfolding answered
some_read s block kept n out h = rw (ne_eqb n 0 h)

pub bytes_read : (s : State) (block : List ℕ) (kept n : ℕ) (out : List ℕ) → (n ≡ 0 → ⊥) → (f : Fed) → f ≡ feed s block (kept + n) out → f ≡ answered s block kept n out
bytes_read s block kept n out h f e = e ∙ sym (some_read s block kept n out h)

-- the place behind the text
pub answered_short : (s t : State) (block b out o : List ℕ) (kept n rest end room : ℕ) → fed_of t end o rest b ≡ answered s block kept n out → 44 * ((kept + n) / 16) ≤ room → 44 ≤ room → end ≤ room
unfolding answered
answered_short s t block b out o kept n rest end room e h k = go (eqb n 0) e
  where
    go : (z : Bool) → fed_of t end o rest b ≡ cond z (fed_of s (put out 0 (tail kept)).0 (put out 0 (tail kept)).1 kept block) (feed s block (kept + n) out) → end ≤ room
    go true q = omega (arith, tail_short kept end out o (ap (λ (f : Fed). f.seen.written) q))
    go false q = omega (arith, fed_short s t block b out o rest (kept + n) end q)

-- what is kept of a block that was answered
pub kept_of : (r : Option (Head × ℕ)) (s : State) (block : List ℕ) (kept : ℕ) (out ls xs hs b o : List ℕ) → Turned r s block kept out ls xs hs b o → (h : Head) (n : ℕ) → r ≡ Some (h, n) → n < 16
kept_of r s block kept out ls xs hs b o turned h n e =
    let t = subst (λ (x : Option (Head × ℕ)). Turned x s block kept out ls xs hs b o) e turned in
    let some : t.1 ≡ 0 → ⊥ = λ z. omega (arith, t.3, z) in
    kept_few s (state h ls xs hs) t.0 b out o n (kept + t.1) t.2 (t.6 ∙ some_read s t.0 kept t.1 out some)
