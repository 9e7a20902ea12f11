pub mod Order
pub mod Scanned
pub mod Answered
pub mod Merged
pub mod Parts
pub mod Listed
