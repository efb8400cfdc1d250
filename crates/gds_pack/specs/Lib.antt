pub mod Packed
pub mod Packable
pub mod Unpacked
pub mod Cut
pub mod Entry
