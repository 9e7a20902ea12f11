pub mod Seats
pub mod Name
pub mod Work
