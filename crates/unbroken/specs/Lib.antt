pub mod Blank
pub mod Unbroken
pub mod Bounds
pub mod Lowest
pub mod Applies
pub mod Writer
