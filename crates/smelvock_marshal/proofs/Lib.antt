pub mod HeadLaws
pub mod LentLaws
