pub mod WordLaws
pub mod ShiftLaws
pub mod QueueLaws
pub mod ListLaws
pub mod SearchLaws
pub mod GoodLaws
pub mod CopyLaws
pub mod RowLaws
