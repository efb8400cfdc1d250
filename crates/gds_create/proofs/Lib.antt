pub mod BlockLemmas
pub mod MakingLemmas
pub mod StageLemmas
pub mod StateLemmas
