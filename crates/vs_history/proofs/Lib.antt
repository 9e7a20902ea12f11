pub mod Beginnings
pub mod Histories
pub mod RuleKept
pub mod Calls
