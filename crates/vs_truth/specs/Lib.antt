pub mod Nearest
pub mod Nears
pub mod RowMembers
