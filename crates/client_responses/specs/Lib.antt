pub mod Figure1
pub mod Row
pub mod Inner
