pub mod Ending
pub mod Telling
pub mod Growing
pub mod Sessions
pub mod Resuming
pub mod Checked
pub mod Login
pub mod Tended
