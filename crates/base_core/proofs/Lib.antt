pub mod Capitals
pub mod EachByte
pub mod Filled
pub mod Folded
pub mod Fronts
pub mod Initials
pub mod Printable
pub mod SameLemmas
