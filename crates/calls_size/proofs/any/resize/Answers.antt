-- `calls_size::any::resize`: the leaf gets the lengths, and their difference goes up; a broken way gives 9 and the head as it was.
use Rattle.std.proofs.Common.{refl, ap}
use Rattle.model.specs.Numbered.{numbered}
use Rattle.model.specs.Kind.{kind_of}
use Rattle.model.specs.Length.{lengths_in}
use Rattle.tree_open.proofs.CursorLaws.{slot_in_law}
use Rattle.calls_size.proofs.SizeLaws.{resize_ready, climb_in, size_refused, size_whole, size_broken}
use Rattle.calls_size.proofs.any.resize.Goals as goal

pub replace-after-requires : goal.replace-after-requires
replace-after-requires c =
    let r = c.open_resize in
    let h = resize_ready (kind_of c.args.views 0 c.args.ordered) (c.requires.0, c.requires.1) _ c.args.at (lengths_in c.args.views c.args.new.now) _ _ (r.ensures 0).0 (ap numbered c.in-Ok.is) in
    let i = slot_in_law _ c.args.at _ h in (i.0, i.1, i.2, c.requires.3)

pub minus-requires : goal.minus-requires
minus-requires c =
    let r = c.open_resize in
    let h = resize_ready (kind_of c.args.views 0 c.args.ordered) (c.requires.0, c.requires.1) _ c.args.at (lengths_in c.args.views c.args.new.now) _ _ (r.ensures 0).0 (ap numbered c.in-Ok.is) in
    (h.ready.shaped, c.requires.3, (r.ensures 0).2, refl)

pub asked_way-requires : goal.asked_way-requires
asked_way-requires c =
    let r = c.open_resize in
    let h = resize_ready (kind_of c.args.views 0 c.args.ordered) (c.requires.0, c.requires.1) _ c.args.at (lengths_in c.args.views c.args.new.now) _ _ (r.ensures 0).0 (ap numbered c.in-Ok.is) in
    let i = slot_in_law _ c.args.at _ h in
    let w = climb_in _ c.args.at _ h _ c.replace-after.auto.leaves in (w.0, w.1, c.requires.2, w.2, i.1, i.2, c.minus.ensures.1)

pub returns-in-Err : goal.returns-in-Err
returns-in-Err c =
    let a = c.args in
    size_refused (kind_of a.views a.effect a.ordered) _ a.at a.new.now a.summed _ (c.open_resize.ensures a.effect).0 _ (ap numbered c.in-Err.is)

pub returns-in-Ok-asked_way : goal.returns-in-Ok-asked_way
returns-in-Ok-asked_way c =
    let r = c.open_resize in
    let d = c.minus in
    let e = c.args.effect in
    let good = ap numbered c.in-Ok.is in
    size_whole (kind_of c.args.views e c.args.ordered) _ c.args.at c.args.new.now c.args.summed _ (r.ensures e).0 _ good _ _ _ r.new.old d.new.delta
    (c.replace-after.ensures _ _) ((r.ensures e).1 _ good) d.ensures.0 _ c.asked_way.ensures _ c.in-Ok-asked_way.is

pub returns-in-Err-asked_way : goal.returns-in-Err-asked_way
returns-in-Err-asked_way c =
    let r = c.open_resize in
    let d = c.minus in
    let e = c.args.effect in
    let good = ap numbered c.in-Ok.is in
    size_broken (kind_of c.args.views e c.args.ordered) _ c.args.at c.args.new.now c.args.summed _ (r.ensures e).0 _ good _ _ _ r.new.old d.new.delta
    (c.replace-after.ensures _ _) ((r.ensures e).1 _ good) d.ensures.0 _ c.asked_way.ensures c.in-Err-asked_way.is
