pub mod Stepping
pub mod Reading
pub mod Chains
pub mod Rows
pub mod Once
