pub mod BlockSet
pub mod Link
pub mod Progress
pub mod Walk
pub mod Frame
pub mod Walker
