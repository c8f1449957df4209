pub mod Form
pub mod Held
