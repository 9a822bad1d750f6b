pub mod Kept
pub mod Outcomes
pub mod Runs
