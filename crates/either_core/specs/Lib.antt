pub mod Either
pub mod Choosing
pub mod MachineLaws
pub mod Stopping
pub use Rattle.lines_core.specs.Serving
pub use Rattle.session_core.specs.Machines
