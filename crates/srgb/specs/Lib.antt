pub mod Parts
pub mod Channels
