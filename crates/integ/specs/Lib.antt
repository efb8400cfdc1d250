pub mod RawFile
pub mod GroupMap
pub mod Standing
pub mod GroupView
pub mod Maps
pub mod Header
pub mod Integ
