pub mod Reading
pub mod Recovered
pub mod History
