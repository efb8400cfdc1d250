pub mod EndingLemmas
pub mod WritingLemmas
