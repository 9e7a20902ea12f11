pub mod Picks
pub mod Scan
pub mod Linked
pub mod Selected
