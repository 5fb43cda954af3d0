-- What a block leaves: its text is short enough for its room, and fewer than sixteen bytes are kept. Assumes nothing.
use mathlib.Core.Path.{◌≡◌, refl, sym, ap, ap₂, ◌∙◌, subst}
use mathlib.Core.List.{List, [], ◌∷◌}
use Prim.Native.Nat.{ℕ, zero, suc, ◌+◌, ◌-◌, ◌*◌, ◌/◌, ◌%◌, ◌≤◌, ◌<◌}
use native.Mathlib.Omega.{arith}
use lib.ListN.{length, take, drop, length-append}
use lib.Seq.{length-take-le}
use Rattle.model.specs.Kind.{base}
use Rattle.model.specs.Lists.{part}
use Rattle.model.specs.Row.{Call, Answer}
use Rattle.model.specs.State.{State}
use Rattle.model.specs.ById.{tree_step}
use Rattle.model.specs.Promise.{answers}
use Rattle.list_records.specs.Said.{answer_of}
use Rattle.list_row.specs.Run.{records, records_of, calls_of}
use Rattle.list_stream.specs.Text.{line, put}
use Rattle.list_stream.proofs.TextLaws.{behind, line_short}
use Rattle.list_stream.specs.Shown.{lines, Shown, shown, show_from, Fed, fed_of, feed}

pub front_room : (block : List ℕ) (have room : ℕ) → have ≤ length block → 44 * (have / 16) ≤ room → 44 * (length (take have block) / 16) ≤ room
front_room block have room h r = subst (λ (k : ℕ). 44 * (k / 16) ≤ room) (sym (length-take-le have block h)) r

pub fed : (s t : State) (block b : List ℕ) (kept have end : ℕ) (out o : List ℕ) → kept ≡ have % 16 → shown t end o ≡ show_from s (calls_of (records_of (take have block))) 0 out
    → (kept, b) ≡ put block 0 (part (have - kept) kept block)
    → fed_of t end o kept b ≡ feed s block have out
unfolding feed
fed s t block b kept have end out o q e k = ap₂ (λ (x : Shown) (y : ℕ × List ℕ). record { seen = x; kept = y }) e (k ∙ ap (λ (n : ℕ). put block 0 (part (have - n) n block)) q)

-- a line for each record at most
lines_short : (rs : List Answer) → length (lines rs) ≤ 44 * length rs
unfolding lines
lines_short [] = omega arith
lines_short (a ∷ more) = omega (arith, length-append (line (answer_of a)) (lines more), line_short (answer_of a), lines_short more)

as_many : (s : State) (cs : List Call) → length (answers (tree_step base) s cs) ≡ length cs
unfolding answers
as_many s [] = refl
as_many s (c ∷ cs) = ap suc (as_many (tree_step base s c).after cs)

calls_many : (n : ℕ) (bs : List ℕ) → length (calls_of (records n bs)) ≡ n
unfolding records
calls_many zero bs = refl
calls_many (suc n) bs = ap suc (calls_many n (drop 16 bs))

text_short : (s : State) (n : ℕ) (bs : List ℕ) → length (lines (answers (tree_step base) s (calls_of (records n bs)))) ≤ 44 * n
text_short s n bs = omega (arith, lines_short (answers (tree_step base) s (calls_of (records n bs))), as_many s (calls_of (records n bs)), calls_many n bs)

-- the place behind a block's text
pub shown_short : (s t : State) (bs out o : List ℕ) (end : ℕ) → shown t end o ≡ show_from s (calls_of (records_of bs)) 0 out → end ≤ 44 * (length bs / 16)
unfolding show_from
shown_short s t bs out o end e = omega (arith, behind out o 0 end (lines (answers (tree_step base) s (calls_of (records_of bs)))) (ap (λ (x : Shown). x.written) e), text_short s (length bs / 16) bs)

take_few : (n : ℕ) (l : List ℕ) → length (take n l) ≤ n
take_few zero l = omega arith
take_few (suc n) [] = omega arith
take_few (suc n) (x ∷ xs) = omega (arith, take_few n xs)

module _ (s t : State) (block b out o : List ℕ) (kept have end : ℕ) (e : fed_of t end o kept b ≡ feed s block have out) where
  pub fed_short : end ≤ 44 * (have / 16)
  unfolding feed
  fed_short = omega (arith, shown_short s t (take have block) out o end (ap (λ (x : Fed). x.seen) e), take_few have block)

  pub kept_few : kept < 16
  unfolding feed part
  kept_few =
      let n = have % 16 in
      let q : kept ≡ 0 + length (take n (drop (have - n) block)) = behind block b 0 kept (take n (drop (have - n) block)) (ap (λ (x : Fed). x.kept) e) in
      omega (arith, q, take_few n (drop (have - n) block))
