pub mod Changes
pub mod Opening
pub mod Happens
pub mod Acts
pub mod Inner
