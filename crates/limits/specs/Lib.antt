pub mod Refusals
pub mod Taken
pub mod Answers
pub mod Each
pub mod Lent
