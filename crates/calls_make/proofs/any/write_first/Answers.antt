-- `calls_make::any::write_first`: node 0 is lent as the area's first words, and comes back written anew.
use Rattle.std.proofs.Common.{◌∙◌}
use Rattle.calls_make.proofs.BeginLaws.{first_node}
use Rattle.calls_make.proofs.any.write_first.Goals as goal

pub returns : goal.returns
returns c =
    let args = c.args in
    let pre = c.requires in
    let new-one = c.new_one in
    first_node args.g args.area.now new-one.new.node pre.1 new-one.auto.node ∙ rw new-one.ensures
