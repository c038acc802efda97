pub mod AnyOrder
pub mod Completes
pub mod Counting
pub mod Lists
pub mod Look
pub mod Names
pub mod Once
pub mod Orders
pub mod Promises
pub mod Refusing
pub mod Repeats
pub mod Rows
pub mod Slots
pub mod Steps
mod Told
