pub mod Hold
pub mod Play
pub mod Clock
