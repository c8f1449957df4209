pub mod Tallying
pub mod Ends
pub mod Walking
pub mod Weighing
pub mod Boundary
pub mod Once
