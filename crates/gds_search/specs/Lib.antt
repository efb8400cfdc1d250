pub mod PackedBlock
pub mod Place
pub mod Child
