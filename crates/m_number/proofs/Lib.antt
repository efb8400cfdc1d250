pub mod OrderingLemmas
pub mod TextLemmas
pub mod BytesLemmas
pub mod PackedLemmas
pub mod NumberLemmas
pub mod ValueLemmas
pub mod EncodedLemmas
