pub mod Formulas
pub mod Across
pub mod Parts
