pub mod ColumnLaws
pub mod LineLaws
pub mod LaidLaws
pub mod WalkLaws
pub mod OpenLaws
pub mod CallLaws
