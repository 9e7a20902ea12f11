pub mod Options
pub mod Digits
pub mod ReadByClap
