pub mod Accepted
pub mod Named
pub mod Set
pub mod Repeats
pub mod Room
