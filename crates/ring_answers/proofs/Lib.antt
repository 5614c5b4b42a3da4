pub mod Numbers
pub mod Parted
pub mod Writing
pub mod Answering
pub mod Examples
