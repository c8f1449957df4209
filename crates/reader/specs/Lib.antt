pub mod Stepping
pub mod Reading
