pub mod Within
pub mod Smallest
