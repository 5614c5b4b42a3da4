pub mod Set
pub mod Meant
