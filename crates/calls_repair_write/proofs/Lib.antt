pub mod NearLaws
pub mod SlotLaws
pub mod NodesLaws
pub mod LeafLaws
