pub mod Shape
pub mod Cut
pub mod Move
pub mod Room
pub mod Depth
