pub mod OverLaws
pub mod ReadLaws
