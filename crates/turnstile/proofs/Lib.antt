pub mod Lists
pub mod Keeps
pub mod Cuts
pub mod Numbers
pub mod Ends
pub mod Whole
