pub mod Cut
pub mod Verbs
