pub mod Midpoint
pub mod Patterns
pub mod Ends
