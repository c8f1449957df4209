pub mod Placing
pub mod Filling
pub mod Entry
