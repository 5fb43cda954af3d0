pub mod Room
pub mod Asked
