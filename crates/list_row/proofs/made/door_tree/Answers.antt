-- `list_row::made::door_tree`: make with the door's fan, limit and lengths, which areas as long as the door's don't refuse.
use Rattle.list_row.proofs.MadeLaws.{door_represents}
use Rattle.list_row.proofs.made.door_tree.Goals as goal

pub returns : goal.returns
returns c =
    let new = c.new in
    let args = c.args in
    record {
      answer_value = new.ensures;
      represents = λ el ex eh. door_represents args.leaves.now args.inners.now args.homes.now el ex eh _ _ new.ensures;
    }
