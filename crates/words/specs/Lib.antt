pub mod Messages
pub mod Records
