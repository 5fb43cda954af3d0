pub mod LeafGoal
pub mod NodeGoal
pub mod Final
pub mod JobLaws
pub mod AnswerLaws
