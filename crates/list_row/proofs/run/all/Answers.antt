-- `list_row::run::all`: what is written so far, with what the records left will give, is what all of them give.
use Rattle.std.proofs.Common.{◌≡◌, ◌+◌, ◌-◌, ◌*◌, ◌/◌, ◌≤◌, length, arith}
use Rattle.list_row.proofs.RunLaws.{next_turn, last_turn, part_long}
use Rattle.list_row.proofs.run.all.Goals as goal

pub loop-i-init : goal.loop-i-init
loop-i-init c = let whole : length c.args.records.now / 16 - 0 ≡ length c.args.records.now / 16 = omega arith in rw whole

pub one-h-requires : goal.one-h-requires
one-h-requires c = (part_long (16 * c.loop-i.i) c.args.records.now (omega arith), part_long (16 * c.loop-i.i) c.loop-i.out (omega arith))

pub loop-i-preserved : goal.loop-i-preserved
loop-i-preserved c =
    let l = c.loop-i in
    let room : 16 * l.i + 16 ≤ length l.out = omega arith in
    let next : 16 * (l.i + 1) ≡ 16 * l.i + 16 = omega arith in
    let less : length c.args.records.now / 16 - (l.i + 1) ≡ length c.args.records.now / 16 - l.i - 1 = omega arith in
    rw (next, less) (next_turn _ _ _ _ (16 * l.i) _ l.invariant (omega arith) room _ _ c.one-h.ensures)

pub returns : goal.returns
returns c = last_turn _ _ _ _ (16 * c.loop-i.i) _ c.loop-i.invariant (omega arith) (omega arith)
