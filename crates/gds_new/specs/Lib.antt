pub mod NewDatabase
pub mod Laws
