-- `editrun::turn`: what was read stands behind what is held.
use mathlib.Core.List.{List, ◌++◌}
use mathlib.Core.Path.{◌≡◌, subst, sym}
use Prim.Native.Nat.{ℕ, ◌+◌, ◌-◌, ◌≤◌}
use native.Mathlib.Omega.{arith}
use lib.ListN.{length, take, drop, length-append, length-drop}
use lib.Seq.{length-take-le}
use borrow.Rule.Slice.PartMut.{put_mid, take_put}
use Rattle.model.specs.Lists.{part}
use Rattle.editrun.specs.Held.{InputHeld}
use Rattle.editrun.proofs.HeldLaws.{held_more, turned_none}
use Rattle.editrun.proofs.turn.Goals as goal

-- what a read puts behind what is held fits the block
room : (kept n : ℕ) (block given : List ℕ) → kept ≤ length block → length given ≡ length (take (length block - kept) (drop kept block)) → n ≤ length given → kept + n ≤ length (put_mid kept (length block - kept) block given)
room kept n block given h l k =
    let back : length (drop kept block) ≡ length block - kept = length-drop kept block in
    let same : length (take (length block - kept) (drop kept block)) ≡ length block - kept = length-take-le (length block - kept) (drop kept block) (omega (arith, back)) in
    omega (arith, l, same, length-append (take kept block) (given ++ drop (length block - kept) (drop kept block)), length-append given (drop (length block - kept) (drop kept block)), length-take-le kept block h)

pub returns-then-n-eq0 : goal.returns-then-n-eq0
returns-then-n-eq0 c =
    let args = c.args in
    let inside : args.kept ≤ length args.block.now = omega (arith, c.requires) in (
      take_put args.kept (length args.block.now - args.kept) args.block.now c.read.new.buf inside,
      omega (arith, room args.kept c.in_ok-n.n args.block.now c.read.new.buf inside c.read.auto.buf c.in_ok-n.ensures.bound.0),
    )

pub returns : goal.returns
returns c =
    let args = c.args in
    let inside : args.kept ≤ length args.block.now = omega (arith, c.requires) in
    let given = put_mid args.kept (length args.block.now - args.kept) args.block.now c.read.new.buf in
    let same = take_put args.kept (length args.block.now - args.kept) args.block.now c.read.new.buf inside in (
      c.in_ok-n.n,
      omega (arith, c.if-n-eq0.false),
      λ input held. subst (λ (k : ℕ). InputHeld (input ++ part args.kept c.in_ok-n.n given) given k) (sym c.fold.ensures)
          (held_more input args.block.now args.kept held c.in_ok-n.n given same
          (room args.kept c.in_ok-n.n args.block.now c.read.new.buf inside c.read.auto.buf c.in_ok-n.ensures.bound.0)),
    )

pub returns-in_err-n : goal.returns-in_err-n
returns-in_err-n c = turned_none _ _ _ _ _ c.from_residual.ensures.1
