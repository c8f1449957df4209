pub mod InOrder
pub mod None
pub mod Rows
pub mod Outcomes
pub mod Places
