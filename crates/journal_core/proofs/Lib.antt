pub mod Lines
pub mod Owed
pub mod Kept
pub mod Entering
