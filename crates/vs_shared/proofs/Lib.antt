pub mod Committing
pub mod Looking
pub mod Starved
pub mod Wanting
pub mod Tasks
