pub mod AreaLaws
pub mod Every
pub mod InnerLaws
pub mod LeafLaws
pub mod LinkLaws
pub mod SoundLaws
pub mod TreeLaws
