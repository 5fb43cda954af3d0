pub mod RowLaws
pub mod TurnLaws
