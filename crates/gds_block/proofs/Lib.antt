pub mod FieldLemmas
pub mod HeadLemmas
pub mod RecordLemmas
pub mod PlaceLemmas
