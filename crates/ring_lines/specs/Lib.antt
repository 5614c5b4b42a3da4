pub mod Pieces
pub mod Promised
