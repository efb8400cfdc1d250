pub mod Waiting
pub mod WaitingView
pub mod State
pub mod Epoch
pub mod Length
