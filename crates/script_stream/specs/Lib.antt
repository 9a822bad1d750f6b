pub mod Over
pub mod Taken
pub mod Pieces
pub mod Answered
pub mod Ended
