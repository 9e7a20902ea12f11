pub mod Trees
pub mod Entries
pub mod Listings
pub mod Below
pub mod FirstItems
pub mod Puts
pub mod Chunks
pub mod Words
