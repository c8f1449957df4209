pub mod Order
pub mod Places
pub mod Figures
pub mod Lengths
pub mod Once
