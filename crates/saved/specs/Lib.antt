pub mod Forms
pub mod Taken
pub mod Players
