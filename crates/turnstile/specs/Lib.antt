pub mod Logs
pub mod Rule
pub mod Steps
pub mod Places
pub mod Passes
pub mod Turned
pub mod Closed
pub mod Tallies
