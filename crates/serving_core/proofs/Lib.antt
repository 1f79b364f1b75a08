mod Back
mod PassLemmas
mod Sends
pub mod Rightful
