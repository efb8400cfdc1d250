pub mod Reading
pub mod Inserted
pub mod Edited
