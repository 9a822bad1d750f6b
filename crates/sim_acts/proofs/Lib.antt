pub mod Guards
pub mod Silent
