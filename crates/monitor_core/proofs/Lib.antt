pub mod Passing
pub mod Checking
pub mod Zipping
pub mod Columns
pub mod Lacking
pub mod Allowing
