pub mod Errors
pub mod Request
pub mod Progress
pub mod Line
pub mod Ending
pub mod Run
