pub mod Constants
pub mod Color
