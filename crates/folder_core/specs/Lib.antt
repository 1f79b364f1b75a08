pub mod FileNames
pub mod Disk
pub mod Restoring
pub mod Serving
pub mod Texts
pub mod Calls
