pub mod Bites
