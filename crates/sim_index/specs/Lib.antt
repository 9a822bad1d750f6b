pub mod Index
pub mod Calls
