pub mod Once
pub mod Same
