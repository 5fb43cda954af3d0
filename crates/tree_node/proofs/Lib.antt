pub mod WriteLaws
pub mod SplitLaws
