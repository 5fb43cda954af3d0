-- `tree_seats::rule::room`: the limit where nobody is named, else the seat's rules.
use Rattle.tree_seats.specs.Words.{seats_from}
use Rattle.tree_seats.proofs.RuleLaws.{good_number, room_nobody, room_number}
use Rattle.tree_seats.proofs.rule.room.Goals as goal

pub with-requires : goal.with-requires
with-requires c = (c.requires.0, good_number c.args.seats.now c.args.seat _ c.requires.1 c.in-Some.is)

pub returns-in-None : goal.returns-in-None
returns-in-None c = room_nobody c.args.limit c.args.entries (seats_from c.args.seats.now) c.args.seat _ c.in-None.is c.without.ensures

pub returns-in-Some : goal.returns-in-Some
returns-in-Some c = room_number c.args.limit c.args.entries (seats_from c.args.seats.now) c.args.seat _ _ c.in-Some.is c.with.ensures
