pub mod Answers
pub mod Refusals
pub mod Outcomes
pub mod Requests
pub mod Readings
pub mod Words
pub mod Options
pub mod Scores
