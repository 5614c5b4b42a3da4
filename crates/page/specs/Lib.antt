pub mod Chroma
pub mod Page
pub mod Inner
