pub mod Plain
pub mod Lines
pub mod Reasons
pub mod OutcomeLemmas
pub mod Left
pub mod HeldLemmas
pub mod Named
