pub mod HomeLaws
pub mod EntryLaws
pub mod SizeLaws
pub mod RoomLaws
pub mod NumberLaws
pub mod ReadyLaws
pub mod LevelLaws
pub mod CallLaws
