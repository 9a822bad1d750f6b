mod ScreenLaws
pub mod Samples
