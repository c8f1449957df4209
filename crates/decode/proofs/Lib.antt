pub mod Outcomes
pub mod Once
