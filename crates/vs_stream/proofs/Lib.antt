pub mod Callers
pub mod Reader
pub mod Laws
pub mod Lines
pub mod Place
pub mod Resume
