pub mod Powers
pub mod Digits
pub mod Scale
pub mod NoTie
pub mod Assemble
pub mod Nearest
