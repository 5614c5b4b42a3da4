pub mod Folds
pub mod Levels
