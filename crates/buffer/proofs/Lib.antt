pub mod Samples
pub mod Green
pub mod Once
