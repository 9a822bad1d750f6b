pub mod Counts
pub mod Refused
