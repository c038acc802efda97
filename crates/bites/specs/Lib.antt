pub mod Setting
pub mod Witnesses
pub mod Variants
pub mod Wrong
pub mod Further
pub mod Checkpoints
pub mod Duplicates
