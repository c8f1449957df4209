pub mod Values
pub mod More
pub mod Once
