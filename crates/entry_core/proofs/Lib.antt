pub mod Firsts
pub mod Opened
pub mod Sending
pub mod Coming
