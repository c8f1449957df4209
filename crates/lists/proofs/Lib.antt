pub mod Tests
pub mod Counts
pub mod Sums
pub mod Numbers
pub mod Made
pub mod Parts
pub mod Powers
