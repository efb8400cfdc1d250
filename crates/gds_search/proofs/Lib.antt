pub mod PackedLemmas
pub mod OrderLemmas
pub mod BodyLemmas
pub mod ReachedLemmas
pub mod ReadingLemmas
