-- `calls_make::any::reset`: line ends, the tree's own fan and limit and its areas are tested, then the first words are written.
use Rattle.std.proofs.Common.{refl, ap}
use Rattle.model.specs.Numbered.{numbered}
use Rattle.model.specs.Kind.{kind_of}
use Rattle.model.specs.Length.{lengths_in}
use Rattle.model.specs.State.{state}
use Rattle.calls_make.proofs.BeginLaws.{make_room_law, reset_refused, reset_good}
use Rattle.calls_make.proofs.any.reset.Goals as goal

pub begin-requires : goal.begin-requires
begin-requires c =
    let args = c.args in
    let pre = c.requires in
    let r = make_room_law (kind_of args.views 0 args.ordered) (pre.0, pre.1) args.head.fan args.head.limit (lengths_in args.views args.x.now) args.leaves.now args.inners.now args.homes.now _ (c.open_make.ensures 0) _ (ap numbered c.in-Ok.is) in
    (r.shaped, r.leaves, r.inners, r.homes, pre.2, pre.3)

pub returns-in-Err : goal.returns-in-Err
returns-in-Err c effect =
    let args = c.args in
    reset_refused (kind_of args.views effect args.ordered) (state args.head args.leaves.now args.inners.now args.homes.now) (lengths_in args.views args.x.now) _ (c.open_make.ensures effect) _ (ap numbered c.in-Err.is)

pub returns-in-Ok : goal.returns-in-Ok
returns-in-Ok c effect =
    let args = c.args in
    let o = c.open_make.ensures effect in
    let good = ap numbered c.in-Ok.is in
    let r = make_room_law (kind_of args.views effect args.ordered) (c.requires.0, c.requires.1) args.head.fan args.head.limit (lengths_in args.views args.x.now) args.leaves.now args.inners.now args.homes.now _ o _ good in
    reset_good (kind_of args.views effect args.ordered) (state args.head args.leaves.now args.inners.now args.homes.now) (lengths_in args.views args.x.now) _ o _ good _ refl _ (c.begin.ensures (kind_of args.views effect args.ordered) r.same)
