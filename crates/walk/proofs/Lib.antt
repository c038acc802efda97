pub mod Marks
pub mod Onward
pub mod Told
