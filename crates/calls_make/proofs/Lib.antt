pub mod BeginLaws
pub mod SeatedLaws
