pub mod Draft
pub mod Drafted
pub mod Laws
pub mod PutLaws
pub mod Committed
