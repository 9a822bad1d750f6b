pub mod CallLaws
pub mod AsRead
