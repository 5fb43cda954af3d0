pub mod Turns
pub mod TallyLaws
