pub use Rattle.m_key.specs.Node
pub use Rattle.m_key.specs.Globals
pub mod Grammar
pub mod Written
pub mod Extract
pub mod Front
pub mod FrontSubscripts
