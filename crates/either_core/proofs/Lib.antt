pub mod Chosen
pub mod Finished
pub mod Sends
