pub mod Holding
pub mod Calls
pub mod Run
pub mod Slot
pub mod Parallel
pub mod Window
pub mod Sound
