pub mod Atoms
pub mod Verdict
pub use Rattle.base_core.specs.Values
pub use Rattle.tables_core.specs.Contents
pub use Rattle.grants_core.specs.Content
