pub mod SplitLaws
pub mod SeatedLaws
