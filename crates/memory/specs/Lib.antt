pub mod Loop
pub mod Sum
