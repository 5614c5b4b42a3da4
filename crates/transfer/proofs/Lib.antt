pub mod Table
pub mod Rules
pub mod Constants
pub mod Steps
pub mod Count
pub mod Transfer
