pub mod Answer
pub mod Script
pub mod Said
pub mod Made
pub mod Finding
