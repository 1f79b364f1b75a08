pub mod Door
pub mod Entrance
pub mod Telling
pub use Rattle.login_core.specs.Users
