pub mod Raw
pub mod Fills
pub mod Unpacking
pub mod Once
