pub mod SignedLaws
pub mod CallLaws
