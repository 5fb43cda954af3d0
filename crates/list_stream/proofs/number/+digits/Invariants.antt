-- `list_stream::number::digits`: each call leaves one digit fewer that may still be written.
use Rattle.list_stream.proofs.number.+digits.Given as goal

abbrev pub decreases-digits : goal.decreases-digits
decreases-digits l = l.most
