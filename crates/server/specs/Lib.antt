pub mod Record
pub mod Parts
pub mod Calls
pub mod Full
pub mod Rows
pub mod Told
pub mod Inner
