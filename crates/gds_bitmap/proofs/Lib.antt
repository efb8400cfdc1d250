pub mod PairLemmas
pub mod CountLemmas
pub mod FreshLemmas
