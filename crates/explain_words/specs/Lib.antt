pub mod Atoms
pub mod Graphs
