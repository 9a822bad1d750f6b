pub mod DecimalLaws
pub mod ReadLaws
pub mod NumberTrip
pub mod PutLaws
