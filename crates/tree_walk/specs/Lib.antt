pub mod PathSteps
pub mod Raise
pub mod Low
