pub mod TextLaws
pub mod Growth
pub mod Follow
pub mod Room
pub mod Exact
pub mod Ordered
