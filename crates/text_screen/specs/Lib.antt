pub mod Screen
pub mod Samples
