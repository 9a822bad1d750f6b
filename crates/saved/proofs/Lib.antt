pub mod Limits
pub mod Players
pub mod FormLaws
pub mod Ordered
pub mod Rules
pub mod Taken
pub mod GoesOn
