mod SearchLemmas
mod LengthLemmas
pub mod ToldLemmas
mod ComeLemmas
mod BackLemmas
pub mod UnitLemmas
mod StepLemmas
pub mod PatchLemmas
mod EpochLemmas
mod EpochToldLemmas
pub mod StateLemmas
