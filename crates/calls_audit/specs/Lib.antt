pub mod Known
pub mod Links
pub mod Counts
pub mod Part
