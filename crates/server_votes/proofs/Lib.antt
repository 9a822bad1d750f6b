pub mod ListLaws
pub mod PartLaws
pub mod MoveLaws
pub mod RoomLaws
pub mod ActLaws
pub mod OwnerLaws
pub mod EveryLaws
pub mod Tagged
