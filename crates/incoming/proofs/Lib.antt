pub mod Refused
pub mod Once
