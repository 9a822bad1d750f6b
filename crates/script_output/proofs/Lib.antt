pub mod Print
pub mod Whole
pub mod Cuts
