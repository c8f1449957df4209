pub mod Walking
pub mod Checks
pub mod Once
