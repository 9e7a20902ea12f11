pub mod Tree
pub mod Changes
pub mod PagedNodes
pub mod FirstItems
pub mod Rows
pub mod Told
pub mod PagedWords
