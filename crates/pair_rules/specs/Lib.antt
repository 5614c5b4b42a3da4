pub mod Rows
pub mod Pair
pub mod Limit
pub mod Marked
