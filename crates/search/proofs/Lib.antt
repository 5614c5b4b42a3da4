pub mod Checking
pub mod Going
pub mod Giving
