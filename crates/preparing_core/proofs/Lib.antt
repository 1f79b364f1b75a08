pub mod Unfilled
pub mod Results
pub mod Described
