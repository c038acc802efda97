pub mod Draining
pub mod Told
