pub mod Windows
pub mod Tops
pub mod Once
