pub mod Grown
pub mod Asked
pub mod Printed
