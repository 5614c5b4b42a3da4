pub mod Ask
pub mod Inner
