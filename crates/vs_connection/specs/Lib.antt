pub mod Point
pub mod Stage
pub mod Written
pub mod Served
pub mod Connection
pub mod Complete
pub mod SoFar
