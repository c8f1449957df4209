pub mod Arrays
pub mod Weighing
pub mod Laying
pub mod Told
pub mod Once
