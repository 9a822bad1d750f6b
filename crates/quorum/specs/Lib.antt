pub mod Check
pub mod Run
pub mod Inner
pub mod Threshold
pub mod Proposal
