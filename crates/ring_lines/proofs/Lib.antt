pub mod Keeping
pub mod Stream
pub mod Taking
pub mod Promise
