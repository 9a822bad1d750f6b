pub mod Rows
pub mod Good
pub mod Queue
pub mod Queues
pub mod Inner
