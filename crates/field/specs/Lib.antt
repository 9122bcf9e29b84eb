pub mod Field
pub mod Inner
