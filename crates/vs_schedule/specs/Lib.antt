pub mod Lines
pub mod Stage
pub mod Answered
pub mod Ends
