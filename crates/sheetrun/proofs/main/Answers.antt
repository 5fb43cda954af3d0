-- `sheetrun::main`: the tree made on areas as long as the door's stands for the door's row.
use Prim.Native.Nat.{ℕ}
use lib.ListN.{length-replicate}
use Rattle.sheetrun.proofs.main.Goals as goal

pub run_blocks-requires : goal.run_blocks-requires
run_blocks-requires c =
    let door-tree = c.door_tree-made in (
      door-tree.ensures.represents (length-replicate {A = ℕ} 4480 0) (length-replicate {A = ℕ} 4480 0) (length-replicate {A = ℕ} 512 0),
      length-replicate {A = ℕ} 4096 0,
      length-replicate {A = ℕ} 4096 0,
      length-replicate {A = ℕ} 30250 0,
    )
