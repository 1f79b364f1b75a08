pub mod Lines
pub mod Sizes
pub mod Allowing
pub mod Found
pub mod Restored
pub mod Spelled
pub mod Passing
