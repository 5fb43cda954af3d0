-- `calls_make::any::new`: line ends, fan, limit and areas are tested, then the tree's first words are written.
use Rattle.std.proofs.Common.{true, List, [], ◌∷◌, ap}
use Rattle.model.specs.Numbered.{numbered, number_of}
use Rattle.model.specs.Lists.{Cause, cause}
use Rattle.model.specs.Kind.{kind_of}
use Rattle.model.specs.Length.{lengths_in}
use Rattle.tree_open.proofs.Causes.{one_cause}
use Rattle.calls_make.proofs.BeginLaws.{new_room, make_refused, make_good}
use Rattle.calls_make.proofs.any.new.Goals as goal

pub begin-requires : goal.begin-requires
begin-requires c =
    let args = c.args in
    let pre = c.requires in
    let shared = number_of args.shared in
    let more : List Cause = cause shared true ∷ [] in
    let r = new_room (kind_of args.views 0 args.ordered) more args.fan args.limit (lengths_in args.views args.x.now) args.leaves.now args.inners.now args.homes.now _ (c.open_new.ensures 0 more (one_cause shared)) (pre.0, pre.1) _ (ap numbered c.in-Ok.is) in
    (r.shaped, r.leaves, r.inners, r.homes, pre.2, pre.3)

pub returns-in-Err : goal.returns-in-Err
returns-in-Err c effect more high =
    let args = c.args in
    make_refused (kind_of args.views effect args.ordered) more args.fan args.limit (lengths_in args.views args.x.now) args.leaves.now args.inners.now args.homes.now _ (c.open_new.ensures effect more high) _ (ap numbered c.in-Err.is)

pub returns-in-Ok : goal.returns-in-Ok
returns-in-Ok c effect more high =
    let args = c.args in
    let o = c.open_new.ensures effect more high in
    let good = ap numbered c.in-Ok.is in
    let r = new_room (kind_of args.views effect args.ordered) more args.fan args.limit (lengths_in args.views args.x.now) args.leaves.now args.inners.now args.homes.now _ o (c.requires.0, c.requires.1) _ good in
    make_good (kind_of args.views effect args.ordered) more args.fan args.limit (lengths_in args.views args.x.now) args.leaves.now args.inners.now args.homes.now _ o _ good _ (c.begin.ensures (kind_of args.views effect args.ordered) r.same)
