pub mod Starred
pub mod Scripts
pub mod Clock
