pub mod Open
pub mod Ready
pub mod Lengths
