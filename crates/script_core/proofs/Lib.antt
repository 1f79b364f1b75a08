pub mod Addressed
pub mod Offsets
pub mod Answering
pub mod OneOutput
pub mod Ended
pub mod Memory
pub mod KeptLemmas
pub mod KeptAnswers
