pub mod Kept
pub use Rattle.capture_core.specs.Image
