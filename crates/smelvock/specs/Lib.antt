pub mod Changes
pub mod Edits
pub mod Heads
pub mod Prints
pub mod Reads
