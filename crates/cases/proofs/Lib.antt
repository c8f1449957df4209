pub mod Forms
pub mod Placing
pub mod Agreeing
pub mod Verdicts
pub mod Once
