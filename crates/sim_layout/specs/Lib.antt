pub mod Layout
pub mod Parts
pub mod Inner
