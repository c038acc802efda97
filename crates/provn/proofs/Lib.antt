pub mod Turns
pub mod Ends
pub mod Told
