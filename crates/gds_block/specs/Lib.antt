pub mod Fields
pub mod Block
pub mod Record
pub mod View
pub mod Item
