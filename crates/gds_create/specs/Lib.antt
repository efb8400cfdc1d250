pub mod Blocks
pub mod Newborn
pub mod Making
pub mod Errors
