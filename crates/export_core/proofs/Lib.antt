pub mod CsvLaw
pub mod Fields
mod Cutting
pub mod PlainNames
mod Places
mod Giving
mod WalkLemmas
mod Alone
mod Uncut
mod Issuing
mod Listing
mod WorkedExamples
