pub mod CommandLemmas
pub mod Turning
