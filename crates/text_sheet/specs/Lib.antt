pub mod Sheet
pub mod Lines
