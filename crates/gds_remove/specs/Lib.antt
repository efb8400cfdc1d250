pub mod Range
pub mod Cut
pub mod Child
pub mod Block
pub mod Killed
pub mod Emptied
pub mod Alone
pub mod Sole
