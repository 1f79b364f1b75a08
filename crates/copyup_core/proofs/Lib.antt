pub mod Rising
pub mod Parallel
pub mod Numbered
pub mod Soundness
pub mod Sifting
pub mod Gathering
pub mod Running
