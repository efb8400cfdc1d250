pub mod SharedLemmas
pub mod PutLemmas
pub mod PlaceLemmas
pub mod EditLemmas
pub mod ReplaceLemmas
pub mod InsertLemmas
pub mod RemoveLemmas
pub mod PackableLemmas
