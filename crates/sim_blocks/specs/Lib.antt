pub mod Regions
pub mod Blocks
