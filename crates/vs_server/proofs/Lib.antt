pub mod Chaining
pub mod Counting
pub mod Dealing
pub mod Meeting
pub mod Sums
