pub mod Fingerprint
pub mod Keys
pub mod Listed
pub mod Rank
pub mod Within
