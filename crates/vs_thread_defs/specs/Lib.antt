pub mod Machine
pub mod Interleaving
pub mod Core
pub mod Passes
pub mod Rule
pub mod Schedule
pub mod Generator
pub mod Laws
