pub mod Fronts
pub mod Answering
pub mod Heard
pub mod Fed
pub mod Going
