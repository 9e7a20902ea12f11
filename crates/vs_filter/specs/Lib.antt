pub mod Numbers
pub mod Seen
pub mod Rules
pub mod Code
pub mod Parsed
pub mod Values
pub mod Evaluated
pub mod Grammar
