pub mod QueueLaws
pub mod LevelLaws
pub mod FreshLaws
pub mod ReachLaws
pub mod LensLaws
pub mod EveryLaws
pub mod TotalLaws
pub mod FitLaws
