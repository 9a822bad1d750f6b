pub mod Stepping
pub mod Refused
