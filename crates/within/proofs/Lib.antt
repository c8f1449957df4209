pub mod Own
pub mod Within
pub mod Smallest
