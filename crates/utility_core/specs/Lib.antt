pub mod Words
pub mod Forms
pub mod Settings
pub mod Commands
