pub mod Create
pub mod Words
pub mod Verb
pub mod Script
