-- The homes of its entries, then its unused slots.
use native.Mathlib.Omega.{arith}
use Rattle.calls_repair_write.proofs.LeafLaws.{leaf_by_law}
use Rattle.calls_repair_write.proofs.leaf.leaf.Goals as goal

pub returns : goal.returns
returns c =
    let homes-of = c.homes_of-n in
    let pre = c.requires in
    let args = c.args in (
      omega (arith, homes-of.ensures.0, c.empty.ensures.1, pre.3, pre.0.shaped.few),
      λ m w. leaf_by_law args.g args.k args.len m _ _ _ _ _ _
          pre.0.shaped pre.2 pre.3 pre.0.room w (λ z. homes-of.ensures.1 _ z) c.empty.ensures.0,
    )
