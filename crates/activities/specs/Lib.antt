pub mod Activity
pub mod Form
pub mod Side
pub mod Complete
pub mod Store
pub mod Outcome
pub mod Receive
pub mod Run
