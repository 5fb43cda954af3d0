pub mod ReadLaws
pub mod OrderLaws
pub mod LookupLaws
pub mod StayLaws
