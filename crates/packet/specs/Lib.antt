pub mod Packet
pub mod Parts
pub mod Reading
pub mod Packing
pub mod Says
pub mod Inner
pub mod Samples
