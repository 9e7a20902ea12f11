pub mod Beam
pub mod Searching
pub mod Named
