pub mod SetIn
pub mod Leaf
pub mod LeafLaws
pub mod Setting
pub mod Node
