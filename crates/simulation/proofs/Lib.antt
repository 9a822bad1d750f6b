pub mod Replies
pub mod NewLaws
pub mod NeverFull
pub mod Determined
pub mod Touched
