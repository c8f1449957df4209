pub mod Looking
pub mod Once
