pub mod SamePass
pub mod Owed
pub mod Pieces
pub mod Fronts
