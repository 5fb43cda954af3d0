pub mod Fit
pub mod Queue
pub mod Reach
pub mod Total
