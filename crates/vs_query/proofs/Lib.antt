pub mod Places
pub mod Named
pub mod Depths
pub mod Searches
