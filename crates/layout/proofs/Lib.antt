pub mod Slices
pub mod Going
pub mod Readers
pub mod Once
