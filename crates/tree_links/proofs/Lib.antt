pub mod AddSteps
pub mod Adding
pub mod Splitting
