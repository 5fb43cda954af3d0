pub mod Read
pub mod Lookup
