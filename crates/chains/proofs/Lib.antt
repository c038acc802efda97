pub mod Lines
pub mod Stated
pub mod Walks
pub mod Lengths
pub mod Laws
