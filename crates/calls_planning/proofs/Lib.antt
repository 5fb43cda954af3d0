pub mod Laws
pub mod LastLaws
