pub mod Table
pub mod Placing
pub mod Gaps
pub mod Turns
pub mod First
pub mod Checking
