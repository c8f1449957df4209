pub mod Sliced
pub mod Framed
pub mod TooLong
pub mod Once
