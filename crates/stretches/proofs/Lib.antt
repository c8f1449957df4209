pub mod Stretching
pub mod Once
