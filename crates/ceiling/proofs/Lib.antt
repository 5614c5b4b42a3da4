pub mod Filling
pub mod Patterns
