-- `calls_edits::difference::list`: both edits are there, and what one is marked for and the other isn't is the difference.
use Rattle.std.proofs.Common.{sym, ◌∙◌, inl, inr}
use Rattle.std.proofs.Math.Logic.{⊎_elim}
use Rattle.calls_edits.specs.Answered.{accepted, granted, differs}
use Rattle.calls_edits.proofs.ListLaws.{the_difference}
use Rattle.calls_edits.proofs.difference.list.Goals as goal

pub returns-then-a-n : goal.returns-then-a-n
returns-then-a-n c =
    let pre = c.requires in
    sym ((differs _ _ _ _).absent pre.1 pre.0 (⊎_elim (λ a. inl a) (λ b. inr b.1) c.then-a-n.either))

pub write-requires : goal.write-requires
write-requires c =
    let pre = c.requires in
    ((accepted _ pre.0).few, pre.1)

pub returns : goal.returns
returns c =
    let pre = c.requires in
    the_difference _ _ _ _ _ _ _ _ c.reached-one.ensures c.reached-two.ensures c.write.ensures ∙ sym (granted _ _ _ _ pre.1 pre.0 c.if-a-n.false c.if-b-n.false)
