pub mod History
pub mod Listed
pub mod Only
