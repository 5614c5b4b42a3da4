pub mod Derivation
pub mod Validation
pub mod BackOff
pub mod Inner
