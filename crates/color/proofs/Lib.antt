pub mod Inside
pub mod Operands
