pub mod Below
pub mod Written
