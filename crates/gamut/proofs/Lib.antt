pub mod Rows
pub mod Entries
pub mod Table
pub mod Stacked
