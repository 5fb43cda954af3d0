pub mod Flat
pub mod Lent
pub mod Heads
pub mod Told
