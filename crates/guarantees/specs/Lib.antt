pub mod Acknowledged
pub mod Sent
pub mod Guarantees
