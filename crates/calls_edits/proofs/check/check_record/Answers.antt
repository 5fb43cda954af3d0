-- `calls_edits::check::check_record`: the record's four words are read at its place.
use Rattle.calls_edits.proofs.RecordLaws.{by_words}
use Rattle.calls_edits.proofs.check.check_record.Goals as goal

pub returns : goal.returns
returns c =
    let word_at = c.word_at-left in
    let word-at2 = c.word_at-right in
    by_words _ _ _ _ _ _ _ word_at.ensures word-at2.ensures c.word_at-third.ensures c.word_at-fourth.ensures c.check_words.ensures
