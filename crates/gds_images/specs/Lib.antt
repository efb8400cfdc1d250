pub mod Chain
pub mod Group
pub mod Reading
pub mod Recovered
pub mod Same
pub mod Outcome
pub mod Laws
