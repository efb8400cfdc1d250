pub mod UpwardLemmas
pub mod AlongLemmas
pub mod KeptLemmas
pub mod ContentLemmas
pub mod SpliceLemmas
pub mod VisitLemmas
pub mod StarLemmas
pub mod StepLemmas
