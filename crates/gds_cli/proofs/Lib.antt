mod HeaderReadingLemmas
mod BlockLemmas
mod DistinctLemmas
mod SoundHeaderLemmas
mod SayingLemmas
mod DirectoryLemmas
mod ExtractLemmas
mod DueLemmas
mod MomentLemmas
mod EndsLemmas
mod CreateLemmas
mod RunLemmas
mod FaultsDueLemmas
mod FaultLineLemmas
pub mod LeafRecordLemmas
pub mod LeafReadingLemmas
pub mod LeafLemmas
