pub mod Calls
pub mod Rules
pub mod Behaviours
pub mod Frames
pub mod Wrong
