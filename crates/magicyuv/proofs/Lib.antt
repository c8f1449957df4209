pub mod Said
pub mod Hosting
pub mod Once
