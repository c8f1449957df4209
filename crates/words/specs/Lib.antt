pub mod Tally
pub mod Weigh
