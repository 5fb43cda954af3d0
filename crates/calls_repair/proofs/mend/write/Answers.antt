-- Leaves and homes first, then the inner nodes over them, then the root: together they leave the one tree.
use native.Mathlib.Omega.{arith}
use Rattle.calls_repair_write.proofs.SlotLaws.{area_now}
use Rattle.calls_repair.proofs.JobLaws.{leaves_aimed, nodes_aimed, root_in, leaf_area, inner_area, leaf_count, inner_count, mended_by}
use Rattle.calls_repair.proofs.mend.write.Goals as goal

pub each_leaf-a-requires : goal.each_leaf-a-requires
each_leaf-a-requires c =
    let pre = c.requires in
    (leaf_area pre.0, pre.1, leaf_count pre.0, leaves_aimed pre.0)

pub nodes-b-requires : goal.nodes-b-requires
nodes-b-requires c =
    let each_leaf = c.each_leaf-a in
    let pre = c.requires in
    let aim = leaves_aimed pre.0 in (
      area_now _ _ _ (each_leaf.ensures.1 aim.goal aim.is).near.leaves.long (leaf_area pre.0),
      inner_area pre.0,
      pre.1,
      omega (arith, pre.0.reached.long),
      omega (arith, leaf_count pre.0, inner_count pre.0, pre.0.shaped.areas),
      nodes_aimed pre.0 each_leaf.ensures.1,
    )

pub link-c-requires : goal.link-c-requires
link-c-requires c =
    let nodes = c.nodes-b in
    let pre = c.requires in
    let each_leaf = c.each_leaf-a in
    let aim = nodes_aimed pre.0 each_leaf.ensures.1 in
    (area_now _ _ _ (nodes.ensures.1 aim.goal aim.is).near.beside.long (inner_area pre.0), root_in pre.0)

pub returns : goal.returns
returns c =
    let each_leaf = c.each_leaf-a in
    let nodes = c.nodes-b in
    let pre = c.requires in (
      omega (arith, each_leaf.ensures.0, nodes.ensures.0, c.link-c.ensures.1, leaf_count pre.0, inner_count pre.0, pre.0.shaped.areas),
      λ w. mended_by w each_leaf.ensures.1 nodes.ensures.1 c.link-c.ensures.0,
    )
