pub mod Shuffles
pub mod Displaced
pub mod Words
pub mod Steps
pub mod OptionSteps
