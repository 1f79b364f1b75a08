pub mod Answering
pub mod Asking
pub mod FaultTexts
pub mod Questions
pub mod Supposing
pub use Rattle.system_core.specs.Journal
pub use Rattle.system_core.specs.World
pub use Rattle.load_core.specs.Loader
