pub mod Numbers
pub mod Places
pub mod Entries
pub mod Shape
