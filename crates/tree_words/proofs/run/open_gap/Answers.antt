-- `tree_words::run::open_gap`: after a turn four words more have moved; at last up to s words below p may be among them, and over those the caller's come.
use Rattle.std.proofs.Common.{ℕ, ◌≡◌, ◌+◌, ◌-◌, ◌*◌, ◌%◌, ◌≤◌, arith}
use Rattle.std.specs.Int.{div_ceil}
use Rattle.model_laws.specs.Words.{part_none, put_none}
use Rattle.tree_words.proofs.Turns.{gap_turn, gap_end}
use Rattle.tree_words.proofs.run.open_gap.Goals as goal

-- the turns move d words, and by s at most more
enough : (d s : ℕ) → 2 ≤ s → d % 2 ≤ s - 2 → (d ≤ 4 * div_ceil d 4) × (4 * div_ceil d 4 ≤ d + s)
enough d s h g = (omega arith, omega arith)

pub loop-turn-init : goal.loop-turn-init
loop-turn-init c =
    let e : c.args.q - (c.args.q - 0) ≡ 0 = omega arith in
    rw (e, part_none, put_none)

pub loop-turn-preserved : goal.loop-turn-preserved
loop-turn-preserved c = gap_turn _ _ _ _ _ _ _ (omega arith) (omega arith) (omega arith) c.loop-turn.invariant c.four_up.ensures

pub returns : goal.returns
returns c = λ x lx.
    let e = enough (c.args.q - c.args.p) c.args.s (omega arith) (omega arith) in
    gap_end _ _ _ _ _ _ x (omega arith) (omega arith) (omega arith) (omega arith) lx c.loop-turn.invariant
