pub mod Text
pub mod Lexing
pub mod Codes
pub mod Pushed
