pub mod Numbers
pub mod Fields
pub mod Reads
pub mod Inner
