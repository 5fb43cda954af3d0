-- The slots in use, then the unused ones.
use native.Mathlib.Omega.{arith}
use Rattle.calls_repair_write.proofs.SlotLaws.{area_now, node_by}
use Rattle.calls_repair_write.proofs.inner.node.Goals as goal

pub returns : goal.returns
returns c =
    let slots = c.slots-n in
    let pre = c.requires in
    let args = c.args in (
      omega (arith, slots.ensures.0, c.empty.ensures.1, pre.4, pre.0.shaped.few),
      λ m w v. node_by args.g args.lowest args.p
          args.len m _ _ _ _ _ _ _ pre.1.shaped pre.3 pre.4 w (slots.ensures.1 m w)
          (area_now _ _ _ (slots.ensures.1 pre.5.goal pre.5.is).near.beside.long pre.1).room c.empty.ensures.0 v,
    )
