pub mod Output
pub mod Reader
pub mod Samples
