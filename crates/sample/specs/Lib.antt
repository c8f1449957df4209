pub mod Depths
pub mod Values
