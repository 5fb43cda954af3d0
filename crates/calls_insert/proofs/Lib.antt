pub mod TargetLaws
pub mod PutLaws
pub mod SeatedLaws
