pub mod Drains
pub mod Applies
