pub mod Parts
pub mod Selects
pub mod Statements
pub mod Tables
