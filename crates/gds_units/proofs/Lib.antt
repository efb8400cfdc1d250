mod OpeningLemmas
pub mod PatchedLemmas
mod HeldLemmas
pub mod DurableLemmas
mod SayingLemmas
pub mod UnitLemmas
mod ReadingLemmas
mod SourcingLemmas
mod KeepingLemmas
pub mod DropLemmas
mod PlanLemmas
mod CarriedLemmas
mod CreatingLemmas
pub mod ExampleLemmas
