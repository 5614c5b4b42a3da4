pub mod Ring
pub mod Spacing
pub mod Gaps
pub mod Placing
