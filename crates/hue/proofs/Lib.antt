pub mod Turns
pub mod Degrees
