pub mod Shown
pub mod Wrong
pub mod Right
