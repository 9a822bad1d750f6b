pub mod CallLaws
pub mod Accepted
pub mod StepLaws
pub mod NewLaws
pub mod UpgradeLaws
pub mod StaysValid
