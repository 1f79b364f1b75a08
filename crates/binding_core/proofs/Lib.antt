pub mod Pushes
pub mod Steps
pub mod Bounds
pub mod Stands
pub mod Codes
pub mod Told
pub mod Said
pub mod Sourced
