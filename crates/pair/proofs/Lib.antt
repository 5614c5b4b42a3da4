pub mod Checking
pub mod Climbing
