pub mod FindLaws
pub mod StepLaws
pub mod AsRow
pub mod MadeLaws
pub mod RunLaws
pub mod Words
