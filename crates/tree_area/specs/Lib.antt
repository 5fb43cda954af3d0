pub mod Area
pub mod Found
