-- Zeros are a fresh queue and fresh marks, as the call with a queue wants them.
use Rattle.calls_repair.proofs.AnswerLaws.{fresh_of}
use Rattle.calls_repair.proofs.any.with_queue.Goals as goal

pub by_queue-requires : goal.by_queue-requires
by_queue-requires c =
    let pre = c.requires in
    (pre, fresh_of pre)
