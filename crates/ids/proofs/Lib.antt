pub mod Choice
pub mod OrderLaws
pub mod LimitsLaws
pub mod RequestLaws
pub mod ListLaws
pub mod Codes
