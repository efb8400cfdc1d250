pub mod State
pub mod Pairs
pub mod Bitmap
