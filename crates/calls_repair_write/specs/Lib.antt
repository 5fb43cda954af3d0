pub mod Blank
pub mod Toward
pub mod Nodes
pub mod Leaves
