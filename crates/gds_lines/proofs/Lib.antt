pub mod CountLemmas
pub mod LineLemmas
pub mod PartLemmas
pub mod ToldLemmas
