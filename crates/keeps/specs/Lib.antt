pub mod Taken
pub mod Keeps
pub mod Change
pub mod Onward
pub mod Lasting
pub mod Laws
pub mod Applies
