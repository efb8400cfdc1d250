pub mod SizeLemmas
pub mod PackLemmas
pub mod ReadLemmas
pub mod UnpackLemmas
pub mod CutLemmas
pub mod BoundLemmas
pub mod ListLemmas
