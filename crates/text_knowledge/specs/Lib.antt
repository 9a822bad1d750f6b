pub mod Knowledge
pub mod Mail
pub mod Boxes
