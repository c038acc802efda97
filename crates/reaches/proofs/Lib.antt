pub mod Behind
pub mod Counted
pub mod Keys
pub mod Visited
pub mod Looked
pub mod Laws
pub mod Applies
