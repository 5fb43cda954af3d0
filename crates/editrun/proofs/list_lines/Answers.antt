-- `editrun::list_lines`: the lines of the numbers before this one stand in the buffer, and one more goes behind them.
use Rattle.std.proofs.Common.{◌≡◌, ◌<◌, length, take, get_or, get_or-take, arith}
use lib.Seq.{length-take-le}
use Rattle.list_stream.proofs.TextLaws.{field_short}
use Rattle.editrun.proofs.PrintedLaws.{no_line, line_more}
use Rattle.editrun.proofs.list_lines.Goals as goal

pub loop-k-init : goal.loop-k-init
loop-k-init c = record { room = omega arith; written = no_line c.args.area.now c.args.out.now }

pub loop-k-preserved : goal.loop-k-preserved
loop-k-preserved c =
    let l = c.loop-k in
    let args = c.args in
    let front : length (take args.n args.area.now) ≡ args.n = length-take-le _ _ c.requires.0 in
    let test : l.k-index < length (take args.n args.area.now) = c.loop-k-test.true in
    let inside : l.k-index < args.n = omega arith in
    let line = rw get_or-take at c.field-end.ensures in
    record {
      room = omega (arith, l.invariant.room, field_short l.out c.field-end.new.out l.end c.field-end.result (get_or args.area.now l.k-index 0) 10 line);
      written = line_more args.area.now args.out.now l.out c.field-end.new.out l.k-index l.end c.field-end.result (omega (arith, c.requires.0, inside)) l.invariant.written line;
    }
