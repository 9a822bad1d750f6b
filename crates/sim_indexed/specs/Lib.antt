pub mod Indexed
pub mod Calls
pub mod Inner
pub mod Samples
