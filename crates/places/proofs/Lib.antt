pub mod Passed
pub mod Samples
pub mod Planes
pub mod Colours
pub mod Covering
pub mod Rows
pub mod Only
pub mod Picture
