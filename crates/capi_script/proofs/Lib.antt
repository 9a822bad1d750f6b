pub mod CallLaws
pub mod Kept
