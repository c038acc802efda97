pub mod Ruled
pub mod Right
pub mod Witnesses
pub mod Wrong
pub mod Further
pub mod Checkpoints
pub mod Duplicates
