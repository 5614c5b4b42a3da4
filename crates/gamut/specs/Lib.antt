pub mod Gamut
pub mod Table
