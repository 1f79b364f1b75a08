pub mod Texts
pub mod Telling
pub mod Pending
pub use Rattle.base_core.specs.Streams
pub use Rattle.lexer_core.specs.Codes
pub use Rattle.export_core.specs.Record
pub use Rattle.export_core.specs.Ticket
