-- `rowrun::main`: the tree made on areas as long as the door's stands for the door's row.
use Prim.Native.Nat.{ℕ}
use lib.ListN.{length-replicate}
use Rattle.rowrun.proofs.main.Goals as goal

pub run-requires : goal.run-requires
run-requires c =
    let door-tree = c.door_tree-made in
    (door-tree.ensures.represents (length-replicate {A = ℕ} 4480 0) (length-replicate {A = ℕ} 4480 0) (length-replicate {A = ℕ} 512 0), length-replicate {A = ℕ} 4096 0, length-replicate {A = ℕ} 11264 0)
