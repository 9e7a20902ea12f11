pub mod Fields
pub mod Grammar
pub mod Listed
pub mod Reading
pub mod Seen
