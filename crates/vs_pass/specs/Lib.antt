pub mod Knower
pub mod Task
