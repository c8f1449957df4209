pub mod Window
pub mod Entries
pub mod Groups
pub mod Once
