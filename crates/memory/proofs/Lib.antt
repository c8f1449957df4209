pub mod InPlace
pub mod Swept
pub mod Clearing
pub mod Sums
pub mod Wrapped
pub mod Once
