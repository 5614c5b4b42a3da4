pub mod Hue
