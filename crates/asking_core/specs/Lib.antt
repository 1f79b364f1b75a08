pub mod Columns
pub mod Manners
pub mod Asking
