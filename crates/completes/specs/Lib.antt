pub mod Order
pub mod Sends
pub mod Promises
