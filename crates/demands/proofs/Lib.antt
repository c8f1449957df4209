pub mod Replies
pub mod Frames
pub mod Tables
pub mod Readings
pub mod Demand
