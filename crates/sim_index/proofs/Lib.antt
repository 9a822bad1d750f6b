pub mod LoopLaws
pub mod RowLaws
pub mod EntryLaws
pub mod WordLaws
pub mod PlaceLaws
pub mod Means
