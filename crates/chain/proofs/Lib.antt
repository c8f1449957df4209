pub mod Once
pub mod Symbols
pub mod Samples
