pub mod Hues
