pub mod WrittenMore
pub mod Placed
pub mod TextStays
pub mod Allowed
pub mod DumpOfText
