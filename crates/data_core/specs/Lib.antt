pub mod Written
pub mod Tending
pub mod Errands
