pub mod Naming
pub mod Entries
pub mod Steps
pub mod Proved
pub mod Right
