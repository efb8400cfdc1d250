pub mod Numeral
pub mod Text
pub mod Bytes
pub mod Packed
pub mod Order
pub mod Value
pub mod Number
