pub mod Reading
pub mod Run
pub mod Applies
