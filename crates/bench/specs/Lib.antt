pub mod Turns
pub mod Received
