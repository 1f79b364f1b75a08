pub mod ImageLemmas
pub mod FillingLemmas
pub mod GivenLemmas
pub mod BeginLemmas
pub mod TakingLemmas
pub mod FingerprintLemmas
pub mod Given
