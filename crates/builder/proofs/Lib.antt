pub mod Filling
pub mod Rows
pub mod Placing
pub mod Written
pub mod Once
