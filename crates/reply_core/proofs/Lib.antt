pub mod Pushing
pub mod Pieces
pub mod Fields
pub mod WritingLemmas
pub mod PendingLemmas
