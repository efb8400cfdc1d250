pub mod Stands
pub mod Questions
pub mod Sound
