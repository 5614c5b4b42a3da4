pub mod Tops
pub mod Ceiling
pub mod Accepted
pub mod Steps
pub mod Holds
pub mod Example
