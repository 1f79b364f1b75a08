pub mod RowLemmas
pub mod Sizes
pub mod Going
pub mod Steppings
pub mod Beginning
