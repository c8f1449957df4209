pub mod Slice
pub mod Simulated
pub mod Rebuilding
pub mod Samples
pub mod Stored
pub mod Eight
pub mod Once
