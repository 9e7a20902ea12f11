pub mod Status
pub mod Jobs
pub mod Server
pub mod Program
