-- `list_stream::block::show`: what the records left show from here on is what the whole block shows from its start.
use Rattle.std.proofs.Common.{◌≡◌, ◌+◌, ◌*◌, ◌/◌, ◌≤◌, length}
use Rattle.std.specs.Slice.Iter.{chunks_exact_rest, chunks_exact_size}
use Rattle.model.specs.State.{state}
use Rattle.list_row.specs.Run.{records_of, calls_of}
use Rattle.list_stream.specs.Shown.{show_from}
use Rattle.list_stream.proofs.block.show.Given as goal

abbrev pub invariant-loop-record : goal.invariant-loop-record
invariant-loop-record l = record {
  size : chunks_exact_size l.record-iterator ≡ 16;
  room : l.end + 44 * (length (chunks_exact_rest l.record-iterator) / 16) ≤ length l.out;
  shown : show_from (state l.initial.after l.initial.leaves l.initial.inners l.initial.homes) (calls_of (records_of l.block)) 0 l.initial.out ≡ show_from (state l.after l.leaves l.inners l.homes) (calls_of (records_of (chunks_exact_rest l.record-iterator))) l.end l.out;
}
