pub mod Image
pub mod Filling
pub mod Capturing
pub mod Fingerprints
pub mod Laws
pub use Rattle.tables_core.specs.Contents
pub use Rattle.grants_core.specs.Content
