pub mod Figure1
pub mod Queues
pub mod Places
pub mod Inner
