pub mod Words
pub mod Meet
pub mod Marked
pub mod Rooms
pub mod Members
