pub mod Fill
pub mod Laws
pub mod Places
pub mod Shelves
pub mod Tests
pub mod Writers
