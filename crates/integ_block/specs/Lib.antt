pub mod Error
pub mod Child
pub mod BlockReading
pub mod Entry
