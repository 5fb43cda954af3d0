-- `sheetrun::turn`: what was read stands behind the kept bytes, and is played with them.
use Prim.Native.Nat.{ℕ, ◌+◌, ◌-◌, ◌≤◌}
use mathlib.Core.Path.{◌≡◌}
use mathlib.Core.List.{List, ◌++◌}
use native.Mathlib.Omega.{arith}
use lib.ListN.{length, take, drop, length-append, length-drop}
use lib.Seq.{length-take-le}
use borrow.Rule.Slice.PartMut.{put_mid, take_put}
use Rattle.sheetrun.proofs.TurnLaws.{turned_none}
use Rattle.sheetrun.proofs.turn.Goals as goal

-- what a read puts behind the kept bytes fits the block
room : (kept n : ℕ) (block given : List ℕ) → kept ≤ length block → length given ≡ length (take (length block - kept) (drop kept block)) → n ≤ length given → kept + n ≤ length (put_mid kept (length block - kept) block given)
room kept n block given h l k =
    let back : length (drop kept block) ≡ length block - kept = length-drop kept block in
    let same : length (take (length block - kept) (drop kept block)) ≡ length block - kept = length-take-le (length block - kept) (drop kept block) (omega (arith, back)) in
    omega (arith, l, same, length-append (take kept block) (given ++ drop (length block - kept) (drop kept block)), length-append given (drop (length block - kept) (drop kept block)), length-take-le kept block h)

pub returns : goal.returns
returns c =
    let args = c.args in
    let inside : args.kept ≤ length args.block.now = omega (arith, c.requires) in (
      put_mid args.kept (length args.block.now - args.kept) args.block.now c.read.new.buf,
      c.in_ok-n.n,
      omega (arith, c.if-n-eq0.false),
      room args.kept c.in_ok-n.n args.block.now c.read.new.buf inside c.read.auto.buf c.in_ok-n.ensures.bound.0,
      take_put args.kept (length args.block.now - args.kept) args.block.now c.read.new.buf inside,
      c.play-left.ensures,
    )

pub returns-in_err-n : goal.returns-in_err-n
returns-in_err-n c = turned_none _ _ _ _ _ _ _ _ _ c.from_residual.ensures.1
