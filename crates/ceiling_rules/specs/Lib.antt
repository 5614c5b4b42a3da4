pub mod Ceiling
pub mod Meant
