pub mod Slices
pub mod TooLong
