pub mod Setting
pub mod Variants
pub mod Witnesses
pub mod Wrong
