pub mod Events
pub mod Actors
pub mod Turns
