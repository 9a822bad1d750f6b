pub mod ServerSends
pub mod ClientSends
