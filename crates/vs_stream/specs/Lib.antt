pub mod Given
pub mod Reader
pub mod Laws
pub mod Machine
pub mod Place
