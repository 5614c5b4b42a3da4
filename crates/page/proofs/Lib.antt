pub mod Chroma
pub mod Rows
pub mod Laying
pub mod Accepted
pub mod Numbers
pub mod Examples
