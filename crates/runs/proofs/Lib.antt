pub mod Running
pub mod Valid
pub mod Told
