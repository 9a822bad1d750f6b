pub mod Bytes
pub mod Format
pub mod Calls
pub mod Step
pub mod Says
pub mod Inner
