pub mod Text
pub mod Whole
