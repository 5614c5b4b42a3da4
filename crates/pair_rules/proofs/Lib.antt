pub mod Rows
pub mod Evenly
pub mod Choices
pub mod Promise
pub mod Gaps
pub mod Cases
pub mod Room
