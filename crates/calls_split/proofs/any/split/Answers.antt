-- `calls_split::any::split`: the tests, then the entry is divided, and the answer is made of where it stands then; where one is refused the head is as it was.
use Rattle.std.proofs.Common.{true, [], ◌∷◌, refl}
use Rattle.std.proofs.lemmas.Result.{err_from_is_err_and}
use Rattle.model.specs.Lists.{cause}
use Rattle.model.specs.Numbered.{number_of}
use Rattle.model.specs.Kind.{kind_of}
use Rattle.model.specs.Length.{lengths_in}
use Rattle.tree_open.proofs.Causes.{one_cause}
use Rattle.calls_split.proofs.SplitLaws.{divide_in_law, answer_in, entry_refused, entry_broken, entry_whole}
use Rattle.calls_split.proofs.any.split.Goals as goal

pub returns-in_err-g : goal.returns-in_err-g
returns-in_err-g c =
    let l = lengths_in c.args.views c.args.x.now in
    let p = err_from_is_err_and c.from_residual.result c.from_residual.ensures.1 in
    λ effect causes room. rw (p.1, p.2) (entry_refused (kind_of c.args.views effect c.args.ordered) causes _ c.args.at l c.args.before _ (c.in_err-g.ensures effect causes room))

pub divide-requires : goal.divide-requires
divide-requires c =
    let l = lengths_in c.args.views c.args.x.now in
    let room = number_of c.args.room in
    let i = divide_in_law (kind_of c.args.views 0 c.args.ordered) (c.requires.0, c.requires.1) _ c.args.at l room c.requires.4 _ (c.in_ok-g.ensures 0 (cause room true ∷ []) (one_cause room)) c.args.x.now c.requires.2 in
    (i.0, i.1, c.requires.3)

pub returns-in_err-r : goal.returns-in_err-r
returns-in_err-r c =
    let l = lengths_in c.args.views c.args.x.now in
    let p = err_from_is_err_and c.from_residual-in_err-r.result c.from_residual-in_err-r.ensures.1 in
    λ effect causes room. rw (p.1, p.2)
    (entry_broken (kind_of c.args.views effect c.args.ordered) causes _ c.args.at l c.args.before _ (c.in_ok-g.ensures effect causes room) _ _ _ c.in_err-r.ensures)

pub divided_at-requires : goal.divided_at-requires
divided_at-requires c =
    let l = lengths_in c.args.views c.args.x.now in
    let room = number_of c.args.room in
    answer_in (kind_of c.args.views 0 c.args.ordered) (c.requires.0, c.requires.1) _ c.args.at l room c.requires.4 _ (c.in_ok-g.ensures 0 (cause room true ∷ []) (one_cause room)) c.args.before _ c.in_ok-r.ensures refl

pub returns : goal.returns
returns c =
    let l = lengths_in c.args.views c.args.x.now in
    λ effect causes room. entry_whole (kind_of c.args.views effect c.args.ordered) causes _ c.args.at l c.args.before _ (c.in_ok-g.ensures effect causes room) _ _ _ _ _ _ c.in_ok-r.ensures _ c.divided_at.ensures
