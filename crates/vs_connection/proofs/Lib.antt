pub mod Serving
pub mod Sessions
pub mod Ends
pub mod Faults
pub mod Pings
pub mod Complete
