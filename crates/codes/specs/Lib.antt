pub mod Tiers
pub mod Reading
