pub mod TakeEvents
