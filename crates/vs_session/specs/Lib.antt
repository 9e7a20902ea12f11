pub mod Does
pub mod After
pub mod Alone
pub mod Shared
pub mod Threads
