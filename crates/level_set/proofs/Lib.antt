pub mod Naming
pub mod Choosing
