-- `editrun::number_in`: what the digits from here on say behind those that say n is what all of them say.
use Rattle.std.proofs.Common.{◌≡◌, ◌^◌, ◌<◌, drop}
use Rattle.list_stream.specs.Lines.{said_by}
use Rattle.editrun.specs.Asked.{digits}
use Rattle.editrun.proofs.number_in.Given as goal

abbrev pub invariant-loop-b : goal.invariant-loop-b
invariant-loop-b l = record { small : l.n < 10 ^ l.b-index; said : said_by l.n (drop l.b-index l.text) ≡ said_by 0 l.text; digits : digits (drop l.b-index l.text) ≡ digits l.text }
