pub mod Listing
pub mod Order
pub mod Text
pub mod Inner
