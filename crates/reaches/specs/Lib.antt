pub mod Tally
pub mod Reaches
pub mod Applies
