pub mod Subscripts
pub mod Record
pub mod Leaf
pub mod Head
