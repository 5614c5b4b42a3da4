pub mod Filling
pub mod Checking
pub mod Ready
pub mod Colors
pub mod Lowering
pub mod Findings
