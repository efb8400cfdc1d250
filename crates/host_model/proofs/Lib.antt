pub mod ChainLemmas
pub mod FailureLemmas
pub mod FileLemmas
pub mod FrameLemmas
pub mod MomentLemmas
pub mod OrderLemmas
pub mod OutcomeLemmas
