pub mod Words
pub mod Lines
pub mod Says
pub mod Printed
pub mod Inner
