pub mod ValidLaws
pub mod RecordLaws
pub mod StepLaws
pub mod KeepsValid
