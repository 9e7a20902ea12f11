pub mod Ranked
pub mod Tests
