pub mod Decimals
pub mod Answers
