pub mod EventLaws
pub mod NewLaws
pub mod Whole
