pub mod Lawful
pub mod RightBlock
pub mod Below
pub mod Keeps
pub mod Around
pub mod Renumber
pub mod Split
