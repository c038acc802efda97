pub mod Reading
pub mod Chains
