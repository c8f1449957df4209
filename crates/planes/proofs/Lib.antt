pub mod Holds
pub mod Adding
pub mod Colours
