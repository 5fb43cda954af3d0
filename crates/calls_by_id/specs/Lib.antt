pub mod Answer
pub mod Target
pub mod Place
