pub mod KindLemmas
pub mod OrderLemmas
pub mod SubscriptLemmas
pub mod RecordLemmas
pub mod BlockLemmas
pub mod TextLemmas
pub mod FollowLemmas
pub mod HeadLemmas
