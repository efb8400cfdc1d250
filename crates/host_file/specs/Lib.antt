pub mod System
