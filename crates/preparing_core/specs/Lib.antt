pub mod FaultProblems
pub mod Shapes
pub mod Guessing
pub mod Preparing
