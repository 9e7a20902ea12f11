pub mod Sorted
pub mod Keys
pub mod Numbers
pub mod Beyond
pub mod Order
